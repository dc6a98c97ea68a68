-- What is given, by the parts that find it.
use Rattle.std.proofs.Common.{◌≡◌, ◌≢◌, ◌↔◌, IsTrue, eq-eqb, ℕ, ◌<◌, ◌≤◌, ◌*◌, ◌^◌, ◌==◌, ◌||◌, ℤ, pos, Bool, true, false, ◌&&◌, nat_lt, List, length, Option, Some, None, Result, IfOk, IfSome, IfNone, refl, sym, ◌∙◌, ap, subst}
use Rattle.std.specs.Option.{IsSomeAnd}
use Rattle.std.proofs.lemmas.Bool.{ne_eqb}
use Rattle.helix_base.specs.declared.memory.Memory.{Memory}
use Rattle.helix_json.specs.declared.value.Json.{Json}
use Rattle.helix_operands.specs.UniqueLaws.{one_units}
use Rattle.helix_keywords.specs.declared.keyword.Keyword.{Keyword}
use Rattle.helix_operands.specs.Rules.{IsFaulty, is_bad_list}
use Rattle.helix_operands.specs.Tests.{GivesTest}
use Rattle.helix_operands.specs.declared.rule.OperandRule.{OperandRule}
use Rattle.helix_profile.specs.declared.test.Test.{Test}
use Rattle.helix_operands.specs.Values.{GivesLength, GivesLevel, GivesValue, HasUnits, Reads, max_members, text_of}
use Rattle.helix_places.specs.Members.{is_list, items_of}
use Rattle.helix_texts.specs.Spelling.{Spells}
use Rattle.helix_values.specs.Class.{Class, numbers, class_of_kind}
use Rattle.helix_values.specs.declared.cell.Cell.{Cell}
use Rattle.helix_values.specs.declared.kind.Kind.{Kind}

-- the value that a text of the kind's class spells
pub value_by_class : (class : Class) (kind : Kind) (v : Json) (r : Result (Option Cell) Memory)
    → class_of_kind kind ≡ class
    → IfOk r (Reads (λ value. IsSomeAnd (text_of class v) (λ text. Spells kind text value)))
    → IfOk r (Reads (GivesValue kind v))
value_by_class class kind v r is reads =
    let P : Class → Type 0 = λ c. IfOk r (Reads (λ value. IsSomeAnd (text_of c v) (λ text. Spells kind text value))) in
    subst P (sym is) reads

pub length_read : (v : Json) (units passed : ℤ) (found : Option ℕ) → HasUnits v units → passed ≡ units
    → IfSome found (λ n. (n ≤ 1000) × (passed ≡ pos (n * 10 ^ 15)))
    → IfNone found ((n : ℕ) → n ≤ 1000 → passed ≢ pos (n * 10 ^ 15)) → Reads (GivesLength v) found
length_read v units passed None has same some none =
    λ n gives. none n gives.0 (same ∙ one_units v units (pos (n * 10 ^ 15)) has gives.1)
length_read v units passed (Some n) has same some none = (some.0, subst (HasUnits v) (sym same ∙ some.1) has)

pub level_read : (v : Json) (units passed : ℤ) (found : Option ℕ) → HasUnits v units → passed ≡ units
    → IfSome found (λ level. (level < 16) × (passed ≡ pos (10 ^ level)))
    → IfNone found ((level : ℕ) → level < 16 → passed ≢ pos (10 ^ level)) → Reads (GivesLevel numbers v) found
level_read v units passed None has same some none =
    λ level gives. none level gives.0 (same ∙ one_units v units (pos (10 ^ level)) has gives.1)
level_read v units passed (Some level) has same some none = (some.0, subst (HasUnits v) (sym same ∙ some.1) has)

first_is : (a b : Bool) → a ≡ true → a ≡ (a || b)
first_is true b is = refl
first_is false b is = absurd (cc)

second_is : (a b : Bool) → a ≡ false → b ≡ (a || b)
second_is true b is = absurd (cc)
second_is false b is = refl

pub bad_empty : (size : ℕ) → size ≡ 0 → (size == 0) ≡ ((size == 0) || nat_lt max_members size)
bad_empty size is = first_is (size == 0) (nat_lt max_members size) (eq-eqb size 0 is)

pub bad_long : (size : ℕ) → size ≢ 0 → nat_lt max_members size ≡ ((size == 0) || nat_lt max_members size)
bad_long size some = second_is (size == 0) (nat_lt max_members size) (ne_eqb size 0 some)

pub bad_list : (v : Json) (items : List Json) (b : Bool) → true ≡ is_list v → items ≡ items_of v
    → b ≡ ((length items == 0) || nat_lt max_members (length items)) → b ≡ is_bad_list v
bad_list v items b list is answer =
    answer ∙ (ap (λ l. (length l == 0) || nat_lt max_members (length l)) is
    ∙ ap (λ t. t && ((length (items_of v) == 0) || nat_lt max_members (length (items_of v)))) list)

-- what is known of a keyword is known of the one that it is
pub of_keyword : (kind : Kind) (v : Json) (r : Result (Option Test) Memory) (k known : Keyword) → k ≡ known
    → IfOk r (Reads (GivesTest kind known v)) → IfOk r (Reads (GivesTest kind k v))
of_keyword kind v r k known is reads =
    let P : Keyword → Type 0 = λ w. IfOk r (Reads (GivesTest kind w v)) in subst P (sym is) reads

pub by_keyword : (kind : Kind) (v : Json) (found : Option Test) (k known : Keyword) → k ≡ known
    → Reads (GivesTest kind known v) found → Reads (GivesTest kind k v) found
by_keyword kind v found k known is reads =
    let P : Keyword → Type 0 = λ w. Reads (GivesTest kind w v) found in subst P (sym is) reads

-- and of a rule
pub of_rule : (kind : Kind) (k : Keyword) (v : Json) (r : Result Bool Memory) (broken known : OperandRule)
    → broken ≡ known → IfOk r (λ answer. IsTrue answer ↔ IsFaulty known kind k v)
    → IfOk r (λ answer. IsTrue answer ↔ IsFaulty broken kind k v)
of_rule kind k v r broken known is says =
    let P : OperandRule → Type 0 = λ w. IfOk r (λ answer. IsTrue answer ↔ IsFaulty w kind k v) in subst P (sym is) says

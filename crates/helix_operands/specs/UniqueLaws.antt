-- A JSON value gives at most one value, level, length and expression, and an operand at most one test.
use Rattle.std.proofs.Common.{◌≡◌, ℕ, zero, suc, ◌*◌, ◌^◌, ℤ, pos, Bool, List, [], ◌∷◌, Option, Some, None, refl, sym, ◌∙◌, ap, arith}
use Rattle.std.specs.Option.{IsSomeAnd}
use Rattle.std.proofs.Math.Nat.{pow-suc, pow-zero}
use Rattle.helix_expr.specs.declared.regex.Regex.{Regex}
use Rattle.helix_json.specs.Inner.DecimalLaws.{some_power}
use Rattle.helix_json.specs.declared.value.Json.{Json}
use Rattle.helix_json.specs.declared.value.Json as json
use Rattle.helix_keywords.specs.declared.keyword.Keyword.{Keyword}
use Rattle.helix_keywords.specs.declared.keyword.Keyword.TheVariants as keyword
use Rattle.helix_operands.specs.Tests.{GivesTest}
use Rattle.helix_operands.specs.Values.{AreValues, GivesLength, GivesLevel, GivesMembers, GivesPattern, GivesValue, HasUnits, text_of}
use Rattle.helix_operands.specs.MadeLaws.{one_made}
use Rattle.helix_places.specs.Members.{items_of}
use Rattle.helix_profile.specs.declared.test.Test.{Test}
use Rattle.helix_profile.specs.declared.test.Test.TheVariants as test
use Rattle.helix_regex.proofs.OneRegex.{one_regex}
use Rattle.helix_texts.proofs.NumberTexts.{one_number}
use Rattle.helix_texts.proofs.TextLaws.{one}
use Rattle.helix_texts.specs.Spelling.{Spells}
use Rattle.helix_values.specs.Class.{Class, numbers, moments, class_of_kind}
use Rattle.helix_values.specs.declared.cell.Cell.{Cell}
use Rattle.helix_values.specs.declared.kind.Kind.{Kind}
use Rattle.helix_values.specs.declared.kind.Kind.TheVariants as kinds

one_spelled : (kind : Kind) (text : Option (List ℕ)) (c d : Cell) → IsSomeAnd text (λ t. Spells kind t c)
    → IsSomeAnd text (λ t. Spells kind t d) → c ≡ d
one_spelled kind None c d first second = absurd first
one_spelled kind (Some t) c d first second = one kind t c d first second

pub one_value : (kind : Kind) (v : Json) (c d : Cell) → GivesValue kind v c → GivesValue kind v d → c ≡ d
one_value kind v c d first second = one_spelled kind (text_of (class_of_kind kind) v) c d first second

same_values : (kind : Kind) (items : List Json) (cs ds : List Cell) → AreValues kind items cs → AreValues kind items ds
    → cs ≡ ds
same_values kind [] [] [] first second = refl
same_values kind [] [] (d ∷ ds) first second = absurd second
same_values kind [] (c ∷ cs) ds first second = absurd first
same_values kind (item ∷ items) [] ds first second = absurd first
same_values kind (item ∷ items) (c ∷ cs) [] first second = absurd second
same_values kind (item ∷ items) (c ∷ cs) (d ∷ ds) first second =
    ap (λ x. x ∷ cs) (one_value kind item c d first.0 second.0)
    ∙ ap (λ xs. d ∷ xs) (same_values kind items cs ds first.1 second.1)

one_list : (kind : Kind) (v : Json) (cs ds : List Cell) → GivesMembers kind v cs → GivesMembers kind v ds → cs ≡ ds
one_list kind v cs ds first second = same_values kind (items_of v) cs ds first.each second.each

pub one_units : (v : Json) (a b : ℤ) → HasUnits v a → HasUnits v b → a ≡ b
one_units (json.Number text) a b first second = one_number text a b first second
one_units other a b first second = absurd first

one_length : (v : Json) (m n : ℕ) → GivesLength v m → GivesLength v n → m ≡ n
one_length v m n first second =
    let same : pos (m * 10 ^ 15) ≡ pos (n * 10 ^ 15) = one_units v _ _ first.1 second.1 in
    let size : m * 10 ^ 15 ≡ n * 10 ^ 15 = cc in omega arith

one_power : (a b : ℕ) → 10 ^ a ≡ 10 ^ b → a ≡ b
one_power zero zero same = refl
one_power zero (suc b) same = absurd (omega (arith, pow-zero 10, pow-suc 10 b, some_power b))
one_power (suc a) zero same = absurd (omega (arith, pow-zero 10, pow-suc 10 a, some_power a))
one_power (suc a) (suc b) same =
    let fewer : 10 ^ a ≡ 10 ^ b = omega (arith, pow-suc 10 a, pow-suc 10 b) in ap suc (one_power a b fewer)

one_level : (class : Class) (v : Json) (a b : ℕ) → GivesLevel class v a → GivesLevel class v b → a ≡ b
one_level numbers v a b first second =
    let same : pos (10 ^ a) ≡ pos (10 ^ b) = one_units v _ _ first.1 second.1 in
    let size : 10 ^ a ≡ 10 ^ b = cc in one_power a b size
one_level moments (json.Str word) a b first second =
    let same : Some a ≡ Some b = sym first ∙ second in cc
one_level moments other a b first second = absurd first
one_level class v a b first second = absurd first

one_pattern : (v : Json) (r s : Regex) → GivesPattern v r → GivesPattern v s → r ≡ s
one_pattern (json.Str text) r s first second = one_regex text r s first.spells second.spells
one_pattern other r s first second = absurd first

one_truth : (v : Json) (a b : Bool) → v ≡ json.Bool a → v ≡ json.Bool b → a ≡ b
one_truth v a b first second = let same : json.Bool a ≡ json.Bool b = sym first ∙ second in cc

pub one_test : (kind : Kind) (k : Keyword) (v : Json) (s t : Test) → GivesTest kind k v s → GivesTest kind k v t
    → s ≡ t
one_test kind keyword.EqualTo v s t = one_made (GivesValue kind v) test.EqualTo (one_value kind v) s t
one_test kind keyword.InSet v s t = one_made (GivesMembers kind v) test.InSet (one_list kind v) s t
one_test kind keyword.IsNull v s t = one_made (λ wanted. v ≡ json.Bool wanted) test.IsNull (one_truth v) s t
one_test kind keyword.MatchingRegex v s t = one_made (GivesPattern v) test.Matching (one_pattern v) s t
one_test kind keyword.ContainingRegex v s t = one_made (GivesPattern v) test.Containing (one_pattern v) s t
one_test kind keyword.OfLength v s t = one_made (GivesLength v) test.OfLength (one_length v) s t
one_test kind keyword.LongerThan v s t = one_made (GivesLength v) test.LongerThan (one_length v) s t
one_test kind keyword.ShorterThan v s t = one_made (GivesLength v) test.ShorterThan (one_length v) s t
one_test kind keyword.GreaterThan v s t = one_made (GivesValue kinds.Decimal v) test.Above (one_value kinds.Decimal v) s
    t
one_test kind keyword.GreaterThanOrEqualTo v s t =
    one_made (GivesValue kinds.Decimal v) test.AtLeast (one_value kinds.Decimal v) s t
one_test kind keyword.LessThan v s t = one_made (GivesValue kinds.Decimal v) test.Below (one_value kinds.Decimal v) s t
one_test kind keyword.LessThanOrEqualTo v s t =
    one_made (GivesValue kinds.Decimal v) test.AtMost (one_value kinds.Decimal v) s t
one_test kind keyword.After v s t = one_made (GivesValue kinds.DateTime v) test.Above (one_value kinds.DateTime v) s t
one_test kind keyword.AfterOrAt v s t =
    one_made (GivesValue kinds.DateTime v) test.AtLeast (one_value kinds.DateTime v) s t
one_test kind keyword.Before v s t = one_made (GivesValue kinds.DateTime v) test.Below (one_value kinds.DateTime v) s t
one_test kind keyword.BeforeOrAt v s t =
    one_made (GivesValue kinds.DateTime v) test.AtMost (one_value kinds.DateTime v) s t
one_test kind keyword.GranularTo v s t = one_made (GivesLevel (class_of_kind kind) v) test.OnGrid
    (one_level (class_of_kind kind) v) s t

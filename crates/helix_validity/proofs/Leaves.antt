-- Atomic constraints and relations that break no rule are given.
use Rattle.std.proofs.Common.{◌≡◌, ◌≢◌, inl, inr, ℕ, ◌*◌, ◌<◌, ◌≤◌, ℤ, nat_abs, pos, Bool, true, false, MatchBool, List, Option, Some, None, codes, refl, sym, ◌∙◌, arith, ⊎_elim}
use Rattle.std.proofs.lemmas.Bool.{cases_lt}
use Rattle.std.specs.Option.{IsSomeAnd}
use Rattle.helix_constraints.specs.Rules.{form_in}
use Rattle.helix_constraints.specs.declared.role.Role.TheVariants as role
use Rattle.helix_json.specs.declared.value.Json.{Json}
use Rattle.helix_keywords.specs.FormLaws.{has_form_of}
use Rattle.helix_keywords.specs.Keywords.{field_word, is_for, word_of}
use Rattle.helix_keywords.specs.declared.form.Form.TheVariants as form
use Rattle.helix_keywords.specs.declared.keyword.FieldKeyword.{FieldKeyword}
use Rattle.helix_keywords.specs.declared.keyword.Keyword.{Keyword}
use Rattle.helix_ladders.specs.declared.offset.Offset.TheVariants as offset
use Rattle.helix_operands.specs.Rules.{IsUnbroken as IsUnbrokenOperand}
use Rattle.helix_operands.specs.Tests.{GivesTest, Makes, names_set_file}
use Rattle.helix_operands.specs.UnbrokenLaws.{reading_finds}
use Rattle.helix_places.specs.Members.{members_of, value_of}
use Rattle.helix_places.specs.PlaceLaws.{and_some}
use Rattle.helix_places.specs.declared.place.Step.{Step}
use Rattle.helix_profile.specs.declared.field.Field.{Field}
use Rattle.helix_profile.specs.declared.test.Test.TheVariants as test
use Rattle.helix_readings.specs.Given.{GivesAtom, GivesTestAt, at_key}
use Rattle.helix_readings.specs.Sets.{HasMembers}
use Rattle.helix_readings.specs.declared.sets.SetMembers.{SetMembers}
use Rattle.helix_references.specs.Inner.Refusals.{IsNoOffset}
use Rattle.helix_references.specs.Naming.{index_by, kind_by}
use Rattle.helix_references.specs.Offsets.{GivesUnits, GivesWhole}
use Rattle.helix_references.specs.RefusalLaws.{not_refused}
use Rattle.helix_references.specs.RelationLaws.{NamedField, named_field}
use Rattle.helix_references.specs.Relations.{GivesOffset, GivesPlain, GivesRelation, GivesShift, compare_of, shift_by}
use Rattle.helix_references.specs.Units.{greatest, size, unit_in}
use Rattle.helix_references.specs.declared.unit.MomentUnit.{MomentUnit}
use Rattle.helix_validity.proofs.First.{IsSomewhere}
use Rattle.helix_validity.proofs.Own.{file_members, for_field, index, named, operand, unbroken_object, unbroken_operand}
use Rattle.helix_validity.proofs.Sound.{IsSound}
use Rattle.helix_validity.specs.Mentions.{AreSetMembers}
use Rattle.helix_values.specs.Class.{Class, booleans, moments, numbers, strings, class_of_kind}
use Rattle.helix_values.specs.declared.kind.Kind.{Kind}

-- it isn't so that there is none
pub some_there : {A : Type 0} (P : A → Type 0) (x : A) → P x → IsSomewhere P
some_there P x h none = none x h

pub and_then : {A B : Type 0} (P : A → Type 0) (Q : B → Type 0) → IsSomewhere P → ((x : A) → P x → IsSomewhere Q)
    → IsSomewhere Q
and_then P Q some more none = some (λ x h. more x h none)

-- the offset of a relation
plain_given : (value : Json) → ¬ ((units : ℤ) → ¬ (GivesUnits value units)) → IsSomewhere (GivesPlain value)
plain_given value some = and_then (GivesUnits value) (GivesPlain value) some
    (λ units gives. some_there (GivesPlain value) (offset.Plain units) (units, gives, refl))

shift_with : (right : Option Kind) (value unit : Json) (o : Option MomentUnit) → unit_in right unit ≡ o
    → ¬ (IsNoOffset moments right (Some value) (Some unit)) → IsSomewhere (GivesShift right value unit)
shift_with right value unit None is sound = absurd (sound (inr is))
shift_with right value unit (Some u) is sound =
    and_then (GivesWhole value) (GivesShift right value unit) (λ none. sound (inl (inl none)))
    (λ n whole. ⊎_elim
    (λ far. absurd (sound (inl (inr (and_some (unit_in right unit)
    (λ w. (m : ℤ) × GivesWhole value m × (greatest w < nat_abs m * size w)) u is (n, whole, far))))))
    (λ near. some_there (GivesShift right value unit) (shift_by u n)
    (and_some (unit_in right unit) (λ w. (m : ℤ) × GivesWhole value m × (nat_abs m * size w ≤ greatest w)
    × (shift_by u n ≡ shift_by w m)) u is (n, whole, omega (arith, near), refl)))
    (cases_lt (greatest u) (nat_abs n * size u)))

offset_given : (class : Class) (right : Option Kind) (value unit : Option Json) → ¬ (IsNoOffset class right value unit)
    → IsSomewhere (GivesOffset class right value unit)
offset_given class right None None sound =
    some_there (GivesOffset class right None None) (offset.Plain (pos 0)) refl
offset_given numbers right (Some value) None sound = plain_given value (λ none. sound (inl none))
offset_given moments right (Some value) (Some unit) sound = shift_with right value unit (unit_in right unit) refl sound
offset_given booleans right (Some value) unit sound = absurd (sound (inl tt))
offset_given strings right (Some value) unit sound = absurd (sound (inl tt))
offset_given moments right (Some value) None sound = absurd (sound (inl tt))
offset_given numbers right (Some value) (Some unit) sound = absurd (sound (inr tt))
offset_given booleans right None (Some unit) sound = absurd (sound (inr tt))
offset_given numbers right None (Some unit) sound = absurd (sound (inr tt))
offset_given strings right None (Some unit) sound = absurd (sound (inr tt))
offset_given moments right None (Some unit) sound = absurd (sound (inr tt))

some_index : (o : Option ℕ) → o ≢ None → (i : ℕ) × (o ≡ Some i)
some_index None some = absurd (some refl)
some_index (Some i) some = (i, refl)

no_file : (b : Bool) → b ≡ false → b ≡ true → ⊥
no_file b is_not is = let both : false ≡ true = sym is_not ∙ is in cc

test_given : (sets : List SetMembers) (place : List Step) (kind : Kind) (keyword : Keyword) (w : Json)
    → is_for keyword (class_of_kind kind) ≡ true → IsUnbrokenOperand kind keyword w
    → (b : Bool) → names_set_file keyword w ≡ b → (b ≡ true → AreSetMembers sets kind place)
    → IsSomewhere (λ made. MatchBool b (Makes (HasMembers sets place) test.InSet made) (GivesTest kind keyword w made))
test_given sets place kind keyword w for unbroken true is file none =
    let are = file refl in none (test.InSet are.members) (are.members, are.has, refl)
test_given sets place kind keyword w for unbroken false is file none =
    no_file false refl (reading_finds kind keyword w None for unbroken is none)

module _ (fields : List Field) (sets : List SetMembers) (prefix : List Step) (v : Json)
    (sound : IsSound fields sets prefix role.One v)
  where
    pub relation_given : (keyword : FieldKeyword) → form_in v ≡ Some (form.Related keyword)
        → IsSomewhere (GivesRelation fields (members_of v) keyword)
    relation_given keyword is =
        let not_so = not_refused fields (members_of v) keyword (has_form_of (members_of v) (form.Related keyword) is)
        (unbroken_object fields sets prefix v sound) in
        let left = some_index (index_by fields (value_of (codes "field") (members_of v))) (λ none. not_so (inl none)) in
        let right = some_index (index_by fields (value_of (field_word keyword) (members_of v)))
        (λ none. not_so (inr (inl none))) in
        let its : NamedField fields (value_of (codes "field") (members_of v)) left.0 =
        named_field fields (value_of (codes "field") (members_of v)) left.0 left.1 in
        let other : Option Kind = kind_by fields (value_of (field_word keyword) (members_of v)) in
        let amount : Option Json = value_of (codes "offset") (members_of v) in
        let unit : Option Json = value_of (codes "offsetUnit") (members_of v) in
        and_then (GivesOffset (class_of_kind its.field.kind) other amount unit)
        (GivesRelation fields (members_of v) keyword)
        (offset_given (class_of_kind its.field.kind) other amount unit (λ bad. not_so (inr (inr
        (and_some (kind_by fields (value_of (codes "field") (members_of v)))
        (λ kind. IsNoOffset (class_of_kind kind) other amount unit) its.field.kind its.kind_is bad)))))
        (λ given gives. some_there (GivesRelation fields (members_of v) keyword)
        (record { left = left.0; compare = compare_of keyword; right = right.0; offset = given })
        (record {
          left = left.1;
          right = right.1;
          comparison = refl;
          shift = and_some (kind_by fields (value_of (codes "field") (members_of v)))
              (λ kind. GivesOffset (class_of_kind kind) other amount unit given) its.field.kind its.kind_is gives;
        }))

    pub atom_given : (keyword : Keyword) → form_in v ≡ Some (form.Atom keyword)
        → IsSomewhere (GivesAtom fields sets prefix (members_of v) keyword)
    atom_given keyword is =
        let i = index fields sets prefix v sound keyword is in
        let w = operand fields sets prefix v sound keyword is in
        let its : NamedField fields (value_of (codes "field") (members_of v)) i.0 =
        named fields sets prefix v sound keyword is i.0 i.1 in
        let place : List Step = at_key prefix (word_of keyword) in
        and_then (GivesTestAt sets place its.field.kind keyword w.0)
        (GivesAtom fields sets prefix (members_of v) keyword)
        (test_given sets place its.field.kind keyword w.0 (for_field fields sets prefix v sound keyword is i.0 i.1)
        (unbroken_operand fields sets prefix v sound keyword is i.0 i.1 w.0 w.1) (names_set_file keyword w.0) refl
        (file_members fields sets prefix v sound keyword is i.0 i.1 w.0 w.1))
        (λ made gives. some_there (GivesAtom fields sets prefix (members_of v) keyword)
        (record { field = i.0; test = made })
        (record {
          field = i.1;
          test = and_some (kind_by fields (value_of (codes "field") (members_of v)))
              (λ kind. IsSomeAnd (value_of (word_of keyword) (members_of v))
              (λ u. GivesTestAt sets place kind keyword u made)) its.field.kind its.kind_is
              (and_some (value_of (word_of keyword) (members_of v))
              (λ u. GivesTestAt sets place its.field.kind keyword u made) w.0 w.1 gives);
        }))

-- The fields of a profile that breaks no rule are valid, and it has at most 1,000 constraints.
use Rattle.std.proofs.Common.{◌≡◌, ℕ, ◌+◌, ◌<◌, ◌≤◌, ◌^◌, true, false, ◌&&◌, nat_le, List, [], ◌∷◌, length, Option, Some, None, codes, refl, arith}
use Rattle.std.proofs.lemmas.Bool.{and_parts, leb-true}
use Rattle.helix_base.specs.declared.alphabet.Alphabet.{Alphabet}
use Rattle.helix_fields.specs.FieldLaws.{fields_are_valid, not_false}
use Rattle.helix_fields.specs.Fields.{AreValidFields, IsNowhere, constraints_of, fields_of}
use Rattle.helix_fields.specs.Under.{items_of_some}
use Rattle.helix_fields.specs.Whole.{BreaksConstraintList, is_list_within}
use Rattle.helix_json.specs.declared.value.Json.{Json}
use Rattle.helix_places.specs.Members.{is_list, items_of, members_of, value_of}
use Rattle.helix_places.specs.PlaceLaws.{and_some}
use Rattle.helix_places.specs.Places.{Here}
use Rattle.helix_places.specs.declared.place.Step.{Step}
use Rattle.helix_places.specs.declared.place.Step.TheVariants as step
use Rattle.helix_profile.specs.declared.constraint.Constraint.{Constraint}
use Rattle.helix_profile.specs.declared.field.Field.{Field}
use Rattle.helix_readings.specs.Given.{AreGiven}
use Rattle.helix_readings.specs.Whole.{GivesConstraints}
use Rattle.helix_readings.specs.declared.sets.SetMembers.{SetMembers}
use Rattle.helix_rules.specs.declared.rule.Rule.TheVariants as rule
use Rattle.helix_validity.specs.Unbroken.{IsUnbrokenProfile}

within : (w : Json) → is_list_within 0 1000 w ≡ true → length (items_of w) ≤ 1000
within w is =
    let sizes = and_parts (is_list w) (nat_le 0 (length (items_of w)) && nat_le (length (items_of w)) 1000) is in
    leb-true (length (items_of w)) 1000
    (and_parts (nat_le 0 (length (items_of w))) (nat_le (length (items_of w)) 1000) sizes.1).1

few_under : (v : Json) (o : Option Json) → value_of (codes "constraints") (members_of v) ≡ o
    → IsNowhere BreaksConstraintList v → length (items_of_some o) ≤ 1000
few_under v None is list = omega arith
few_under v (Some w) is list = within w (not_false (is_list_within 0 1000 w) (λ bad.
    list (step.Member (codes "constraints") ∷ []) (
      refl,
      and_some (value_of (codes "constraints") (members_of v))
          (λ u. Here (λ constraints. is_list_within 0 1000 constraints ≡ false) u []) w is (refl, bad),
    )))

few_items : (v : Json) → IsNowhere BreaksConstraintList v → length (constraints_of v) ≤ 1000
few_items v = few_under v (value_of (codes "constraints") (members_of v)) refl

module _ (fields : List Field) (sets : List SetMembers) (place : List Step) where
  one_each : (index : ℕ) (items : List Json) (cs : List Constraint) → AreGiven fields sets place index items cs
      → length cs ≡ length items
  one_each index [] [] given = refl
  one_each index [] (c ∷ cs) given = absurd given
  one_each index (item ∷ items) [] given = absurd given
  one_each index (item ∷ items) (c ∷ cs) given = omega (arith, one_each (index + 1) items cs given.1)

few_given : (fields : List Field) (sets : List SetMembers) (v : Json) (cs : List Constraint)
    → IsNowhere BreaksConstraintList v → GivesConstraints fields sets v cs → length cs ≤ 1000
few_given fields sets v cs list given = omega (
  arith,
  one_each fields sets (step.Member (codes "constraints") ∷ []) 0 (constraints_of v) cs given,
  few_items v list,
)

pub valid_fields : (alphabet : Alphabet) (v : Json) → IsUnbrokenProfile (fields_of alphabet v) v
    → AreValidFields (fields_of alphabet v)
valid_fields alphabet v unbroken =
    fields_are_valid alphabet v (unbroken rule.S3) (unbroken rule.S4) (unbroken rule.S5)

pub few_constraints : (fields : List Field) (sets : List SetMembers) (v : Json) (cs : List Constraint)
    → IsUnbrokenProfile fields v → GivesConstraints fields sets v cs → length cs < 2 ^ 32
few_constraints fields sets v cs unbroken given =
    omega (arith, few_given fields sets v cs (unbroken rule.S7) given)

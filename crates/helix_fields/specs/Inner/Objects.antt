-- What one loop over members, and one over items, is about.
use Rattle.std.specs.Prelude.{ℕ, Bool, List}
use Rattle.helix_json.specs.declared.value.Json.{Json}
use Rattle.helix_places.specs.declared.place.Step.{Step}
use Rattle.helix_fields.specs.declared.faulty.Object.{Object}
use Rattle.helix_fields.specs.declared.faulty.Object.TheVariants as object
use Rattle.helix_fields.specs.declared.field.FieldRule.{FieldRule}
use Rattle.helix_fields.specs.declared.field.FieldRule.TheVariants as rule
use Rattle.helix_fields.specs.FieldRules.{is_field_member, BreaksFieldForm, BreaksUniqueField}
use Rattle.helix_fields.specs.Whole.{is_profile_member}

-- the members that the object may have
abbrev pub may_have : Object → List ℕ → Json → Bool
may_have object.Profile = is_profile_member
may_have object.Field = is_field_member

-- where the rule is broken in a field
abbrev pub BreaksInField : FieldRule → Json → List Step → Type 0
BreaksInField rule.Form = BreaksFieldForm
BreaksInField rule.Unique = BreaksUniqueField

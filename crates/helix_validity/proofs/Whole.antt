-- A profile that breaks no rule is valid.
use Rattle.std.proofs.Common.{List}
use Rattle.helix_base.specs.declared.alphabet.Alphabet.{Alphabet}
use Rattle.helix_fields.specs.Fields.{AreValidFields, fields_of}
use Rattle.helix_json.specs.Values.{HasNoRepeatedKey}
use Rattle.helix_json.specs.declared.value.Json.{Json}
use Rattle.helix_profile.specs.Validity.{IsValidProfile}
use Rattle.helix_profile.specs.declared.constraint.Constraint.{Constraint}
use Rattle.helix_profile.specs.declared.field.Field.{Field}
use Rattle.helix_readings.specs.Whole.{GivesConstraints}
use Rattle.helix_readings.specs.declared.sets.SetMembers.{SetMembers}
use Rattle.helix_validity.proofs.Fields.{few_constraints, valid_fields}
use Rattle.helix_validity.proofs.Fitting.{constraints_fit}
use Rattle.helix_validity.proofs.Forests.{relations_are_a_forest}
use Rattle.helix_validity.specs.Mentions.{AreFilled}
use Rattle.helix_validity.specs.Unbroken.{IsUnbrokenProfile}

module _ (fields : List Field) (sets : List SetMembers) (v : Json) (cs : List Constraint) where
  valid_with : AreValidFields fields → HasNoRepeatedKey v → IsUnbrokenProfile fields v → AreFilled fields sets v
      → GivesConstraints fields sets v cs → IsValidProfile (record { fields = fields; constraints = cs })
  valid_with valid keys unbroken filled given = record {
    some_field = valid.some_field;
    few_fields = valid.few_fields;
    names = valid.names;
    different_names = valid.different_names;
    few_constraints = few_constraints fields sets v cs unbroken given;
    constraints_fit = constraints_fit fields sets v cs unbroken filled given;
    no_cycle = relations_are_a_forest fields sets v cs valid.few_fields keys unbroken filled given;
  }

pub valid_profile : (alphabet : Alphabet) (sets : List SetMembers) (v : Json) (cs : List Constraint)
    → HasNoRepeatedKey v → IsUnbrokenProfile (fields_of alphabet v) v → AreFilled (fields_of alphabet v) sets v
    → GivesConstraints (fields_of alphabet v) sets v cs
    → IsValidProfile (record { fields = fields_of alphabet v; constraints = cs })
valid_profile alphabet sets v cs keys unbroken =
    valid_with (fields_of alphabet v) sets v cs (valid_fields alphabet v unbroken) keys unbroken

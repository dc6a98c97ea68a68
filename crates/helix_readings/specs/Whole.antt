-- The constraints that a profile gives.
use Rattle.std.specs.Prelude.{List, [], ◌∷◌, codes}
use Rattle.helix_fields.specs.Fields.{constraints_of}
use Rattle.helix_json.specs.declared.value.Json.{Json}
use Rattle.helix_places.specs.declared.place.Step.TheVariants as step
use Rattle.helix_profile.specs.declared.constraint.Constraint.{Constraint}
use Rattle.helix_profile.specs.declared.field.Field.{Field}
use Rattle.helix_readings.specs.Given.{AreGiven}
use Rattle.helix_readings.specs.declared.sets.SetMembers.{SetMembers}

-- each item of the list `constraints` gives one
abbrev pub GivesConstraints : List Field → List SetMembers → Json → List Constraint → Type 0
GivesConstraints fields sets v constraints =
    AreGiven fields sets (step.Member (codes "constraints") ∷ []) 0 (constraints_of v) constraints

-- What a profile says, apart from how it is kept.
use Rattle.std.specs.Prelude.{List}
use Rattle.helix_profile.specs.declared.constraint.Constraint.{Constraint}
use Rattle.helix_profile.specs.declared.field.Field.{Field}

-- fields in their declared order, and the constraints on them
pub record Content : Type 0 where
  pub fields : List Field
  pub constraints : List Constraint

-- A part of a profile: some of its fields, and constraints on these alone.
use Rattle.std.specs.Prelude.{◌≡◌, ℕ, ◌<◌, ◌≤◌, true, Some, length, slice_get, Contains}
use Rattle.std.specs.List.{All}
use Rattle.std.specs.List.Sorted.{IsStrictlyIncreasing}
use Rattle.helix_profile.specs.Content.{Content}
use Rattle.helix_profile.specs.Width.{names_field}
use Rattle.helix_profile.specs.declared.constraint.Constraint.{Constraint}
use Rattle.helix_partition.specs.declared.partition.Partition.{Partition}

-- At least one field, positions in range and ascending, and constraints that name fields of the part alone. Each group
-- of linked fields is one.
pub record IsPartOf (profile : Content) (part : Partition) : Type 0 where
  pub some_field : 1 ≤ length part.fields
  pub ascending_fields : IsStrictlyIncreasing part.fields
  pub ascending_constraints : IsStrictlyIncreasing part.constraints
  pub fields_in_range : All (λ field. field < length profile.fields) part.fields
  pub constraints_in_range : All (λ number. number < length profile.constraints) part.constraints
  pub own_fields : (number field : ℕ) (constraint : Constraint) → Contains part.constraints number
      → slice_get profile.constraints number ≡ Some constraint → names_field field constraint ≡ true
      → Contains part.fields field

-- The groups of linked fields of a profile, each with its constraints.
use Rattle.std.specs.Prelude.{◌≡◌, ℕ, zero, suc, ◌<◌, Bool, true, false, ◌==◌, if◌then◌else◌, ◌≤◌, ◌⊎◌, Some, List, [], ◌∷◌, ◌++◌, length, map, slice_get, Contains}
use Rattle.std.specs.List.{All, AllByRecursion}
use Rattle.std.specs.List.Sorted.{IsStrictlyIncreasing}
use Rattle.std.specs.Option.{option_map_or}
use Rattle.helix_profile.specs.Content.{Content}
use Rattle.helix_profile.specs.Width.{names_field, is_linked, is_in_group}
use Rattle.helix_profile.specs.declared.constraint.Constraint.{Constraint}
use Rattle.helix_partition.specs.declared.partition.Partition.{Partition}

-- the numbers below a limit that pass a test, in ascending order
abbrev pub numbers_below : (ℕ → Bool) → ℕ → List ℕ
numbers_below test zero = []
numbers_below test (suc n) = numbers_below test n ++ (if test n then n ∷ [] else [])

-- no field before this one is linked with it
abbrev pub is_least : List Constraint → ℕ → Bool
is_least constraints field = length (numbers_below (λ other. is_linked constraints other field) field) == 0

-- the constraint of this number, counted from 0, names a field of the group
abbrev pub is_grouped : List Constraint → ℕ → ℕ → Bool
is_grouped constraints field number = option_map_or (is_in_group constraints field) (slice_get constraints number) false

-- the group of a field: the fields that are linked with it, and the constraints on them
abbrev pub group_of : Content → ℕ → Partition
group_of profile field = record {
  fields = numbers_below (is_linked profile.constraints field) (length profile.fields);
  constraints = numbers_below (is_grouped profile.constraints field) (length profile.constraints);
}

-- the groups in the order of their least fields
abbrev pub groups_of : Content → List Partition
groups_of profile = map (group_of profile) (numbers_below (is_least profile.constraints) (length profile.fields))

-- the fact holds of exactly one group of a list
abbrev pub OfExactlyOne : (Partition → Type 0) → List Partition → Type 0
OfExactlyOne Fact [] = ⊥
OfExactlyOne Fact (group ∷ groups) =
    (Fact group × AllByRecursion (λ other. ¬ Fact other) groups) ⊎ ((¬ Fact group) × OfExactlyOne Fact groups)

-- A group by itself: at least one field, positions in range and ascending, fields that are linked, and constraints that
-- name fields of the group alone.
pub record IsGroup (profile : Content) (group : Partition) : Type 0 where
  pub some_field : 1 ≤ length group.fields
  pub ascending_fields : IsStrictlyIncreasing group.fields
  pub ascending_constraints : IsStrictlyIncreasing group.constraints
  pub fields_in_range : All (λ field. field < length profile.fields) group.fields
  pub constraints_in_range : All (λ number. number < length profile.constraints) group.constraints
  pub linked : (a b : ℕ) → Contains group.fields a → Contains group.fields b
      → is_linked profile.constraints a b ≡ true
  pub own_fields : (number field : ℕ) (constraint : Constraint) → Contains group.constraints number
      → slice_get profile.constraints number ≡ Some constraint → names_field field constraint ≡ true
      → Contains group.fields field

-- Every field and every constraint is in exactly one group.
pub record IsPartition (profile : Content) (groups : List Partition) : Type 0 where
  pub each_group : AllByRecursion (IsGroup profile) groups
  pub each_field : (field : ℕ) → field < length profile.fields
      → OfExactlyOne (λ group. Contains group.fields field) groups
  pub each_constraint : (number : ℕ) → number < length profile.constraints
      → OfExactlyOne (λ group. Contains group.constraints number) groups

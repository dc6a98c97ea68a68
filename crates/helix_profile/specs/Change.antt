-- A profile with its constraints changed, and nothing else.
use Rattle.std.specs.Prelude.{ℕ, ◌-◌, List, [], ◌∷◌, ◌++◌, Option, None, Some, slice_get, slice_set}
use Rattle.helix_profile.specs.Content.{Content}
use Rattle.helix_profile.specs.declared.constraint.Constraint.{Constraint}

-- another constraint in place of that of a number, counted from 1
abbrev pub replaced : Content → ℕ → Constraint → Content
replaced profile number constraint =
    record { fields = profile.fields; constraints = slice_set profile.constraints (number - 1) constraint }

-- more constraints after its own
abbrev pub with_more : Content → List Constraint → Content
with_more profile more = record { fields = profile.fields; constraints = profile.constraints ++ more }

-- the constraint of a number, as a list of one, where there is one
abbrev pub listed : Option Constraint → List Constraint
listed None = []
listed (Some constraint) = constraint ∷ []

-- the constraints of these numbers, counted from 1, in the order of the numbers
abbrev pub numbered : List Constraint → List ℕ → List Constraint
numbered constraints [] = []
numbered constraints (number ∷ numbers) = listed (slice_get constraints (number - 1)) ++ numbered constraints numbers

-- only the constraints of these numbers
abbrev pub kept : Content → List ℕ → Content
kept profile numbers = record { fields = profile.fields; constraints = numbered profile.constraints numbers }

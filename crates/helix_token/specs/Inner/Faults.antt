-- The faults of cells.
use Rattle.std.specs.Prelude.{ℕ, List}
use Rattle.helix_profile.specs.declared.field.Field.{Field}
use Rattle.helix_token.specs.Broken.{IsFirstFaulty}
use Rattle.helix_token.specs.declared.fault.TokenFault.{TokenFault}
use Rattle.helix_token.specs.declared.fault.TokenFault.TheVariants as fault

-- a fault of a cell, with the least index
abbrev pub IsCellFault : List Field → List (List ℕ) → TokenFault → Type 0
IsCellFault fields strings (fault.Cell index) = IsFirstFaulty fields strings index
IsCellFault fields strings other = ⊥

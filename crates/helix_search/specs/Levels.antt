-- What a search leaves in its levels.
use Rattle.std.specs.Prelude.{Bool, true, false, List, [], ◌∷◌}
use Rattle.helix_values.specs.declared.cell.Cell.{Cell}
use Rattle.helix_values.specs.declared.cell.Cell.TheVariants as cell
use Rattle.helix_values.specs.declared.mark.Mark.{Mark}
use Rattle.helix_values.specs.Marks.{IsAdmitted}
use Rattle.helix_words.specs.Questions.{IsLeastAdmitted}
use Rattle.helix_search.specs.declared.level.Level.{Level}

-- the candidate of the first level
abbrev pub first_candidate : List Level → Cell
first_candidate [] = cell.Null
first_candidate (level ∷ levels) = level.candidate

-- v is the least cell of a set that a mark admits, or there is none
abbrev pub IsFound : (Cell → Type 0) → Mark → Bool → Cell → Type 0
IsFound Has mark true v = IsLeastAdmitted Has mark v
IsFound Has mark false v = (other : Cell) → Has other → ¬ (IsAdmitted mark other)

-- Questions as marks.
use Rattle.std.specs.Prelude.{◌≡◌}
use Rattle.helix_rows.specs.declared.region.Question.{Question}
use Rattle.helix_rows.specs.declared.region.Question.TheVariants as question
use Rattle.helix_values.specs.declared.cell.Cell.{Cell}
use Rattle.helix_values.specs.declared.mark.Mark.{Mark}
use Rattle.helix_values.specs.declared.mark.Mark.TheVariants as mark
use Rattle.helix_values.specs.View.{cell_of}

-- the mark that admits what the question admits beside the own cell
abbrev pub IsMarked : Question → Cell → Mark → Type 0
IsMarked question.Start own mark.Start = Unit {0}
IsMarked question.At own (mark.At bound) = cell_of bound ≡ own
IsMarked question.After own (mark.After bound) = cell_of bound ≡ own
IsMarked question own other = ⊥

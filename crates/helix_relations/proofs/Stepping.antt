-- Steps of a cell, and the mark of a question. Lemmas.
use Rattle.std.proofs.Common.{◌↔◌, Bool, true, false, refl, sym, subst}
use Rattle.helix_values.specs.declared.cell.Cell.{Cell}
use Rattle.helix_values.specs.declared.mark.Mark.{Mark}
use Rattle.helix_values.specs.declared.mark.Mark.TheVariants as mark
use Rattle.helix_values.specs.Counts.{IsMarkBound}
use Rattle.helix_values.specs.Class.{class_of_kind}
use Rattle.helix_values.specs.Marks.{IsAdmitted}
use Rattle.helix_values.specs.Order.{CellLess}
use Rattle.helix_rows.specs.Regions.{IsAskedFor, IsLeastStep}
use Rattle.helix_rows.specs.declared.region.Question.{Question}
use Rattle.helix_rows.specs.declared.region.Question.TheVariants as question
use Rattle.helix_search.specs.Levels.{IsFound}
use Rattle.helix_relations.specs.Asking.{IsOwnFor, IsMarkFor}
use Rattle.helix_relations.specs.Region.{RegionField}
use Rattle.helix_relations.specs.Inner.Marking.{IsMarked}

-- the mark is one for the field, if the own cell is
pub marked_for : (q : Question) (own : Cell) (m : Mark) (field : RegionField) → IsMarked q own m → IsOwnFor q field own
    → IsMarkFor m field
marked_for question.Start own mark.Start field marked for = tt
marked_for question.At own (mark.At bound) field marked for =
    subst (IsMarkBound (class_of_kind field.field.kind)) (sym marked) for.0
marked_for question.After own (mark.After bound) field marked for =
    subst (IsMarkBound (class_of_kind field.field.kind)) (sym marked) for.0
marked_for q own m field marked for = absurd marked

-- it admits what the question does
admits_asked : (q : Question) (own : Cell) (m : Mark) → IsMarked q own m → (v : Cell)
    → IsAdmitted m v ↔ IsAskedFor q own v
admits_asked question.Start own mark.Start marked v = ((λ is. is), (λ is. is))
admits_asked question.At own (mark.At bound) marked v = (
  (λ is. subst (λ b. ¬ CellLess v b) marked is),
  (λ is. subst (λ b. ¬ CellLess v b) (sym marked) is),
)
admits_asked question.After own (mark.After bound) marked v = (
  (λ is. subst (λ b. CellLess b v) marked is),
  (λ is. subst (λ b. CellLess b v) (sym marked) is),
)
admits_asked q own m marked v = absurd marked

-- a step among some cells is one among the same cells
pub step_alike : (One Other : Cell → Type 0) → ((v : Cell) → One v ↔ Other v) → (q : Question) (found : Bool)
    (old new : Cell) → IsLeastStep One q found old new → IsLeastStep Other q found old new
step_alike One Other same q true old new is = record {
  has = (same new).0 is.has;
  admitted = is.admitted;
  least = λ other has. is.least other ((same other).1 has);
}
step_alike One Other same q false old new is = (is.0, λ other has. is.1 other ((same other).1 has))

-- a cell that was found is the next one,
pub found_step : (Has : Cell → Type 0) (q : Question) (own : Cell) (m : Mark) (v : Cell) → IsMarked q own m
    → IsFound Has m true v → IsLeastStep Has q true own v
found_step Has q own m v marked is = record {
  has = is.has;
  admitted = (admits_asked q own m marked v).0 is.admitted;
  least = λ other has asked. is.least other has ((admits_asked q own m marked other).1 asked);
}

-- and where none was, there is none
pub none_step : (Has : Cell → Type 0) (q : Question) (own : Cell) (m : Mark) (v : Cell) → IsMarked q own m
    → IsFound Has m false v → IsLeastStep Has q false own own
none_step Has q own m v marked none =
    (refl, λ other has asked. none other has ((admits_asked q own m marked other).1 asked))

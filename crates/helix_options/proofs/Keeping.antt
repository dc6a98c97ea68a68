-- A region has a row where some cell of its first field extends to one.
use Rattle.std.proofs.Common.{Bool, true, false, List, refl}
use Rattle.std.proofs.lemmas.Bool.{false≢true}
use Rattle.std.specs.Bool.{Decides}
use Rattle.helix_relations.specs.Region.{RegionContent, numbers_of, ExtendsTo}
use Rattle.helix_profile.specs.Satisfaction.{cell_at}
use Rattle.std.specs.Prelude.{slice_index}
use Rattle.helix_values.specs.declared.cell.Cell.{Cell}
use Rattle.helix_values.specs.declared.mark.Mark.TheVariants.{Start}
use Rattle.helix_words.specs.Questions.{IsLeastAnswer}
use Rattle.helix_options.specs.Inner.Keeping.{HasRow}

-- each row extends no cells to its first one
pub has_row : (region : RegionContent) (prefix : List Cell) (answer : Bool) (old new : Cell)
    → IsLeastAnswer (ExtendsTo region prefix 0) Start answer old new → Decides answer (HasRow region)
has_row region prefix true old new is = ((λ e. (is.has.row, is.has.begins.is_row)), (λ has. refl))
has_row region prefix false old new is = (
  (λ e. absurd (false≢true e)),
  (λ has. absurd (is.1 (cell_at has.0 (slice_index (numbers_of region.fields) 0))
      (record { row = has.0; begins = record { is_row = has.1; agrees = tt }; is = refl }) tt)),
)

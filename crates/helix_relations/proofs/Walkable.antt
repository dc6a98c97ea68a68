-- What the walk knows of a region's cells and classes, in the region's own words. Lemmas.
use Rattle.std.proofs.Common.{ℕ, ◌<◌, List, All, length, ap, subst}
use Rattle.std.proofs.Math.Path.{subst₂}
use Rattle.helix_rows.specs.Regions as rows
use Rattle.helix_rows.specs.Regions.{number_at, class_at, AreCellsTo}
use Rattle.helix_rows.specs.declared.region.Question.{Question}
use Rattle.helix_rows.specs.declared.region.Question.TheVariants as question
use Rattle.helix_values.specs.Counts.{IsMarkOf}
use Rattle.helix_values.specs.declared.cell.Cell.{Cell}
use Rattle.helix_values.specs.declared.mark.Mark.{Mark}
use Rattle.helix_profile.specs.Satisfaction.{cell_at}
use Rattle.helix_relations.specs.Asking.{OfField, IsAskable, IsCellForField, IsMarkFor, IsOwnFor}
use Rattle.helix_relations.specs.PieceCells.{at_field}
use Rattle.helix_relations.specs.Pieces.{classes_of}
use Rattle.helix_relations.specs.Region.{RegionField, numbers_of}

module _ (fields : List RegionField) where
  pub prefix_askable : (level : ℕ) (prefix : List Cell) → All (λ n. n < length prefix) (numbers_of fields)
      → AreCellsTo level (numbers_of fields) (classes_of fields) prefix → (u : ℕ) → u < level
      → OfField fields u (IsAskable prefix)
  prefix_askable level prefix slots cells u below field at = let there = at_field fields u field at in record {
    slot = subst (λ n. n < length prefix) there.1 (slots u 0 there.0);
    cell = subst₂ (λ class v. rows.IsCellFor class v) there.2 (ap (λ n. cell_at prefix n) there.1) (cells u below);
  }

  pub level_mark : (level : ℕ) (mark : Mark) → IsMarkOf (class_at (classes_of fields) level) mark
      → OfField fields level (IsMarkFor mark)
  level_mark level mark of field at = subst (λ class. IsMarkOf class mark) (at_field fields level field at).2 of

  pub level_own : (level : ℕ) (row : List Cell) (q : Question)
      → rows.IsCellFor (class_at (classes_of fields) level) (cell_at row (number_at (numbers_of fields) level))
      → OfField fields level (λ field. IsOwnFor q field (cell_at row field.number))
  level_own level row q own field at = by q
    where
      for : IsCellForField field (cell_at row field.number)
      for = let there = at_field fields level field at in
          subst₂ (λ class v. rows.IsCellFor class v) there.2 (ap (λ n. cell_at row n) there.1) own

      by : (q : Question) → IsOwnFor q field (cell_at row field.number)
      by question.Start = tt
      by question.At = for
      by question.After = for

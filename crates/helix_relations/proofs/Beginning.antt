-- Rows that begin with a prefix, one cell after the other. Lemmas.
use Rattle.std.proofs.Common.{◌↔◌, ℕ, zero, suc, ◌+◌, ◌<◌, ◌≤◌, Bool, true, false, List, [], ◌∷◌, take, length, Some, refl, sym, ap, arith}
use Rattle.helix_values.proofs.ClassLaws.{class_of_value, comparable_in_class}
use Rattle.helix_values.specs.Class.{Class, class_of_kind, IsNullOr, AreComparable}
use Rattle.helix_values.specs.Counts.{IsMarkBound}
use Rattle.helix_values.specs.declared.cell.Cell.{Cell}
use Rattle.helix_values.specs.declared.cell.Cell.TheVariants as cell
use Rattle.helix_values.specs.declared.mark.Mark.{Mark}
use Rattle.helix_words.specs.Questions.{IsLeastAnswer}
use Rattle.helix_profile.specs.Good.{IsCellOf}
use Rattle.helix_profile.specs.Satisfaction.{cell_at}
use Rattle.helix_profile.specs.declared.field.Field.{Field}
use Rattle.helix_relations.specs.GraphLaws.{as_many}
use Rattle.helix_relations.specs.Region.{RegionField, RegionContent, numbers_of, IsRegion, IsRegionCell, IsRegionRow, AgreeAt, ExtendsTo}
use Rattle.helix_relations.specs.RegionGraph.{number_of}
use Rattle.helix_relations.specs.RegionLaws.{agree_at}
use Rattle.helix_relations.specs.RowLaws.{begins_next}
use Rattle.helix_relations.specs.Asking.{Begins}

agree_none : (numbers : List ℕ) (row prefix : List Cell) → AgreeAt (take 0 numbers) row prefix
agree_none [] row prefix = tt
agree_none (n ∷ numbers) row prefix = tt

agree_self : (numbers : List ℕ) (row : List Cell) → AgreeAt numbers row row
agree_self [] row = tt
agree_self (n ∷ numbers) row = (refl, agree_self numbers row)

agree_less : (numbers : List ℕ) (level u : ℕ) (row prefix : List Cell) → u ≤ level
    → AgreeAt (take level numbers) row prefix → AgreeAt (take u numbers) row prefix
agree_less [] zero zero row prefix below agree = tt
agree_less [] zero (suc u) row prefix below agree = tt
agree_less [] (suc level) zero row prefix below agree = tt
agree_less [] (suc level) (suc u) row prefix below agree = tt
agree_less (n ∷ numbers) zero zero row prefix below agree = tt
agree_less (n ∷ numbers) (suc level) zero row prefix below agree = tt
agree_less (n ∷ numbers) zero (suc u) row prefix below agree = absurd (omega (arith, below))
agree_less (n ∷ numbers) (suc level) (suc u) row prefix below agree =
    (agree.0, agree_less numbers level u row prefix (omega (arith, below)) agree.1)

module _ (region : RegionContent) (is : IsRegion region) (prefix : List Cell) where
  -- each row begins with no cells
  pub begins_none : (row : List Cell) × IsRegionRow region row → Begins region prefix 0
  begins_none rows = (
    rows.0,
    record { is_row = rows.1; agrees = agree_none (numbers_of region.fields) rows.0 prefix },
  )

  -- with one more cell that extends
  pub begins_more : (u : ℕ) → u < length region.fields → ExtendsTo region prefix u (cell_at prefix (number_of region u))
      → Begins region prefix (u + 1)
  begins_more u below to = (
    to.row,
    begins_next region u below prefix prefix (cell_at prefix (number_of region u)) to
        (agree_self (take u (numbers_of region.fields)) prefix) refl,
  )

  -- and where one doesn't extend, none begins with it
  pub begins_before : (level : ℕ) → level < length region.fields → Begins region prefix level → (u : ℕ) → u < level
      → ExtendsTo region prefix u (cell_at prefix (number_of region u))
  begins_before level within begun u below = record {
    row = begun.0;
    begins = record {
      is_row = begun.1.is_row;
      agrees = agree_less (numbers_of region.fields) level u begun.0 prefix (omega (arith, below)) begun.1.agrees;
    };
    is = agree_at region is prefix level within (numbers_of region.fields) level begun.0 begun.1.agrees u below
        (let same = as_many region.fields in omega (arith, same, within, below));
  }

-- the least one among some cells is that among the same cells
pub answer_alike : (One Other : Cell → Type 0) → ((v : Cell) → One v ↔ Other v) → (mark : Mark) (found : Bool)
    (old new : Cell) → IsLeastAnswer One mark found old new → IsLeastAnswer Other mark found old new
answer_alike One Other same mark true old new is = record {
  has = (same new).0 is.has;
  admitted = is.admitted;
  least = λ other has. is.least other ((same other).1 has);
}
answer_alike One Other same mark false old new is = (is.0, λ other has. is.1 other ((same other).1 has))

cell_of_class : (field : Field) (v : Cell) → IsCellOf field v → IsNullOr (class_of_kind field.kind) v
cell_of_class field cell.Null is = tt
cell_of_class field (cell.Bool b) is = class_of_value field.kind (cell.Bool b) is
cell_of_class field (cell.Number n) is = class_of_value field.kind (cell.Number n) is
cell_of_class field (cell.Moment m) is = class_of_value field.kind (cell.Moment m) is
cell_of_class field (cell.Text t) is = class_of_value field.kind (cell.Text t) is

bound_of_class : (class : Class) (v : Cell) → IsMarkBound class v → IsNullOr class v
bound_of_class class cell.Null is = tt
bound_of_class class (cell.Bool b) is = is
bound_of_class class (cell.Number n) is = is
bound_of_class class (cell.Moment m) is = is
bound_of_class class (cell.Text t) is = ap Some (sym is.0)

-- a cell of a field can be compared with one that the field can be asked with
pub comparable : (field : RegionField) (v own : Cell) → IsRegionCell field v
    → IsMarkBound (class_of_kind field.field.kind) own → AreComparable v own
comparable field v own is bound = comparable_in_class (class_of_kind field.field.kind) v own
    (cell_of_class field.field v is.of_field) (bound_of_class (class_of_kind field.field.kind) own bound)

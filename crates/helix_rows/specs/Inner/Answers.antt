-- What questions to several regions answer.
use Rattle.std.specs.Prelude.{◌≡◌, ℕ, ◌+◌, Bool, true, false, List, [], ◌∷◌, ◌++◌, ◌⊎◌, ◌↔◌}
use Rattle.std.specs.List.{Contains}
use Rattle.helix_rows.specs.Inner.Levels.{Agree}
use Rattle.helix_rows.specs.Parts.{IsInPart}
use Rattle.helix_rows.specs.Regions.{cell_at, Continues, IsAskedFor, IsFirstChange, IsLeastOf}
use Rattle.helix_rows.specs.declared.offer.Found.{Found}
use Rattle.helix_rows.specs.declared.region.Question.{Question}
use Rattle.helix_values.specs.Marks.{IsAdmitted}
use Rattle.helix_values.specs.declared.mark.Mark.{Mark}
use Rattle.helix_values.specs.Order.{CellLess, RowLess}
use Rattle.helix_values.specs.declared.cell.Cell.{Cell}

-- a mark admits what a question asks for
abbrev pub IsMarkFor : Question → Cell → Mark → Type 0
IsMarkFor question own mark = (value : Cell) → (IsAdmitted mark value ↔ IsAskedFor question own value)

-- the regions that gave the best cell, and that cell
pub record Best : Type 0 where
  pub numbers : List ℕ
  pub cell : Cell

-- those that are kept
abbrev pub best_of : Found → Best
best_of found = record { numbers = found.numbers.items; cell = found.best }

-- no region has an admitted cell
abbrev pub HasNone : (Has Admitted : Cell → Type 0) → Type 0
HasNone Has Admitted = (other : Cell) → Has other → ¬ (Admitted other)

-- one more region is asked beside those that gave the best cell so far
abbrev pub IsOffered : (Has Admitted : Cell → Type 0) (number : ℕ) (old new : Best) → Type 0
IsOffered Has Admitted number old new = (HasNone Has Admitted × (new ≡ old))
    ⊎ ((c : Cell) × IsLeastOf Has Admitted c
    × ((((old.numbers ≡ []) ⊎ CellLess c old.cell) × (new ≡ record { numbers = number ∷ []; cell = c }))
    ⊎ (((c ≡ old.cell) × (new ≡ record { numbers = old.numbers ++ number ∷ []; cell = old.cell }))
    ⊎ ((¬ (old.numbers ≡ [])) × CellLess old.cell c × (new ≡ old)))))

-- the least admitted cell of several regions, and the regions that gave it
pub record IsFound (Has : ℕ → List Cell → Type 0) (asked : List ℕ) (cells : List Cell)
    (Admitted : Cell → Type 0) (best : Best) : Type 0 where
  pub least : IsLeastOf (Continues (IsInPart Has asked) cells) Admitted best.cell
  pub all : (n : ℕ) → Contains asked n → Continues (Has n) cells best.cell → Contains best.numbers n
  pub only : (n : ℕ) → Contains best.numbers n → Contains asked n

-- it is found, or there is none
abbrev pub IsFoundIf : (Has : ℕ → List Cell → Type 0) → List ℕ → List Cell → (Cell → Type 0) → Bool → Best
    → Type 0
IsFoundIf Has asked cells Admitted true best = IsFound Has asked cells Admitted best
IsFoundIf Has asked cells Admitted false best = HasNone (Continues (IsInPart Has asked) cells) Admitted

-- no row of a set that agrees with this one before a field has a lesser cell there
abbrev pub IsLeastAt : (List Cell → Type 0) → List Cell → ℕ → Type 0
IsLeastAt In row field = (other : List Cell) → In other → Agree field other row
    → ¬ (CellLess (cell_at other field) (cell_at row field))

-- no row of a set that agrees with this one before a field is above it
abbrev pub IsLastFrom : (List Cell → Type 0) → List Cell → ℕ → Type 0
IsLastFrom In row field = (other : List Cell) → In other → Agree field other row → ¬ (RowLess row other)

-- A row is raised at a field: it agrees before it and has the least cell there that is above its own, and after the
-- field no row of the set is above it.
pub record IsRaised (In : List Cell → Type 0) (old new : List Cell) (field : ℕ) : Type 0 where
  pub change : IsFirstChange field old new
  pub last : IsLastFrom In old (field + 1)
  pub least : (other : List Cell) → In other → Agree field other old
      → CellLess (cell_at old field) (cell_at other field)
      → ¬ (CellLess (cell_at other field) (cell_at new field))

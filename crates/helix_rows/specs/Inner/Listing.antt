-- Rows of two cells in a list, as the tests have them.
use Rattle.std.specs.Prelude.{◌≡◌, ◌⊎◌, ℕ, zero, suc, ◌<◌, ℤ, Bool, true, false, List, [], ◌∷◌, Option, None, Some, length}
use Rattle.std.proofs.Common.{refl, sym, subst, arith}
use Rattle.std.specs.List.{All, Contains}
use Rattle.helix_rows.specs.declared.part.Part.{Part}
use Rattle.helix_rows.specs.Regions.{cell_at, class_at, Continues, IsCellFor, IsPieceOf}
use Rattle.helix_values.specs.Class.{numbers}
use Rattle.helix_values.specs.Order.{CellLess}
use Rattle.helix_values.specs.declared.cell.Cell.{Cell}
use Rattle.helix_values.specs.declared.cell.Cell.TheVariants as cell

-- a number, or null
abbrev pub cell_or_null : Option ℤ → Cell
cell_or_null None = cell.Null
cell_or_null (Some number) = cell.Number number

-- the cells of a pair
abbrev pub cells_of : Option ℤ × Option ℤ → List Cell
cells_of pair = cell_or_null pair.0 ∷ cell_or_null pair.1 ∷ []

-- the cells are those of a pair that is listed
pub record IsListed (pairs : List (Option ℤ × Option ℤ)) (cells : List Cell) : Type 0 where
  pub pair : Option ℤ × Option ℤ
  pub listed : Contains pairs pair
  pub are : cells ≡ cells_of pair

-- a cell with which cells go on to those of a pair
abbrev pub GoesOn : Option ℤ × Option ℤ → List Cell → Cell → Type 0
GoesOn pair cells next = Continues (λ all. all ≡ cells_of pair) cells next

-- the one cell of a set, or there is none
abbrev pub IsOnly : (Cell → Type 0) → Option (Option ℤ) → Type 0
IsOnly Has None = (other : Cell) → ¬ (Has other)
IsOnly Has (Some value) = Has (cell_or_null value) × ((other : Cell) → Has other → other ≡ cell_or_null value)

-- the cell so far, or one more where that is admitted and less
abbrev pub IsTaken : (Cell → Type 0) → Option (Option ℤ) → (found result : Bool) → (old new : Cell) → Type 0
IsTaken Admitted None found result old new = (result ≡ found) × (new ≡ old)
IsTaken Admitted (Some value) found result old new =
    ((¬ (Admitted (cell_or_null value))) × (result ≡ found) × (new ≡ old))
    ⊎ (Admitted (cell_or_null value) × (result ≡ true)
    × (((found ≡ true) × (¬ (CellLess (cell_or_null value) old)) × (new ≡ old))
    ⊎ (((found ≡ false) ⊎ CellLess (cell_or_null value) old) × (new ≡ cell_or_null value))))

-- four regions, the first two over fields 0 and 2 and the others over fields 1 and 3, each with a row
pub record AreFour {R : Type 0} (fields_of : R → List ℕ) (Has : R → List Cell → Type 0)
    (regions : List R) : Type 0 where
  pub first : R
  pub second : R
  pub third : R
  pub fourth : R
  pub are : regions ≡ first ∷ second ∷ third ∷ fourth ∷ []
  pub fields_first : fields_of first ≡ 0 ∷ 2 ∷ []
  pub fields_second : fields_of second ≡ 0 ∷ 2 ∷ []
  pub fields_third : fields_of third ≡ 1 ∷ 3 ∷ []
  pub fields_fourth : fields_of fourth ≡ 1 ∷ 3 ∷ []
  pub row_first : (cells : List Cell) × Has first cells
  pub row_second : (cells : List Cell) × Has second cells
  pub row_third : (cells : List Cell) × Has third cells
  pub row_fourth : (cells : List Cell) × Has fourth cells

-- the last two of them, or none
abbrev pub IsSecond : List ℕ → Type 0
IsSecond regions = (regions ≡ []) ⊎ (regions ≡ 2 ∷ 3 ∷ [])

-- the cells of a row are numbers or null
abbrev pub AreNumbers : List Cell → Type 0
AreNumbers row = (field : ℕ) → IsCellFor numbers (cell_at row field)

-- each part is of two fields
abbrev pub AreOfTwo : List Part → Type 0
AreOfTwo parts = All (λ part. length part.fields ≡ 2) parts

-- they are cells of two fields
pub number_cell : (value : Option ℤ) → IsCellFor numbers (cell_or_null value)
number_cell None = (tt, tt)
number_cell (Some n) = (refl, tt)

pub number_cells : (pair : Option ℤ × Option ℤ) (i : ℕ) → i < 2
    → IsCellFor (class_at (numbers ∷ numbers ∷ []) i) (cell_at (cells_of pair) i)
number_cells pair zero less = number_cell pair.0
number_cells pair (suc zero) less = number_cell pair.1
number_cells pair (suc (suc i)) less = absurd (omega (arith, less))

pub pairs_shaped : (a b : ℕ) (pairs : List (Option ℤ × Option ℤ)) (cells : List Cell) → IsListed pairs cells
    → IsPieceOf (a ∷ b ∷ []) (numbers ∷ numbers ∷ []) cells
pairs_shaped a b pairs cells listed = subst (λ cs. IsPieceOf (a ∷ b ∷ []) (numbers ∷ numbers ∷ []) cs)
    (sym listed.are) (record {
      count = refl;
      each = λ i less. number_cells listed.pair i less;
    })

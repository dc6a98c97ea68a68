-- Rows whose fields are divided into parts, each with regions of its own.
use Rattle.std.specs.Prelude.{◌≡◌, ◌↔◌, ℕ, ◌+◌, ◌*◌, ◌<◌, ◌≤◌, List, Option, None, Some, length, slice_index_or}
use Rattle.std.specs.List.{All, Any, AllPairs, Contains, sum_by}
use Rattle.helix_profile.specs.Answer.{IsAbove}
use Rattle.helix_rows.specs.Regions.{piece, AreCellsTo, IsFirstChange}
use Rattle.helix_rows.specs.declared.part.Part.{Part}
use Rattle.helix_values.specs.Class.{Class}
use Rattle.helix_values.specs.Order.{RowLess}
use Rattle.helix_values.specs.declared.cell.Cell.{Cell}

-- the cells are a row of the region with this number
pub record HasAt {R : Type 0} (Has : R → List Cell → Type 0) (regions : List R) (number : ℕ)
    (cells : List Cell) : Type 0 where
  pub within : number < length regions
  pub has : (d : R) → Has (slice_index_or regions number d) cells

-- the cells are a row of one of these regions
pub record IsInPart (Has : ℕ → List Cell → Type 0) (numbers : List ℕ) (cells : List Cell) : Type 0 where
  pub number : ℕ
  pub listed : Contains numbers number
  pub has : Has number cells

-- in each part, the row's cells are a row of one of the part's regions
pub record IsInParts (Has : ℕ → List Cell → Type 0) (fields : ℕ) (parts : List Part)
    (row : List Cell) : Type 0 where
  pub count : length row ≡ fields
  pub each : All (λ part. IsInPart Has part.regions (piece part.fields row)) parts

-- the least row of a set that is above a row, or above nothing
pub record IsNextRow (InParts : List Cell → Type 0) (start : Option (List Cell)) (next : List Cell) : Type 0 where
  pub is_in : InParts next
  pub above : IsAbove start next
  pub least : (row : List Cell) → InParts row → IsAbove start row → ¬ (RowLess row next)

-- the parts share out the fields: each has its fields in ascending order, and no field is in two of them or in none
pub record ArePartsOf (fields : ℕ) (parts : List Part) : Type 0 where
  pub ascending : All (λ part. AllPairs (λ a b. a < b) part.fields) parts
  pub within : All (λ part. All (λ field. field < fields) part.fields) parts
  pub disjoint : AllPairs (λ a b. (field : ℕ) → Contains a.fields field → ¬ (Contains b.fields field)) parts
  pub covered : (field : ℕ) → field < fields → Any (λ part. Contains part.fields field) parts

-- there is a region with the number, and it is over these fields
pub record IsRegionOver {R : Type 0} (fields_of : R → List ℕ) (regions : List R) (wanted : List ℕ)
    (number : ℕ) : Type 0 where
  pub within : number < length regions
  pub over : (d : R) → fields_of (slice_index_or regions number d) ≡ wanted

-- the region with the number has these classes
pub record HasClasses {R : Type 0} (classes_of : R → List Class) (regions : List R) (classes : List Class)
    (number : ℕ) : Type 0 where
  pub are : (d : R) → classes_of (slice_index_or regions number d) ≡ classes

-- each region of a part is over the part's fields and has a row, and the regions of a part have the same classes
pub record AreRegionsOf {R : Type 0} (fields_of : R → List ℕ) (classes_of : R → List Class)
    (Has : R → List Cell → Type 0) (regions : List R) (parts : List Part) : Type 0 where
  pub over : All (λ part. All (IsRegionOver fields_of regions part.fields) part.regions) parts
  pub rows : All (λ part. All (λ number. (cells : List Cell) × HasAt Has regions number cells) part.regions) parts
  pub classes : All (λ part. (classes : List Class) × All (HasClasses classes_of regions classes) part.regions) parts

-- the row's cells of some fields are cells for the classes of the region with this number
pub record HasCellsOf {R : Type 0} (classes_of : R → List Class) (regions : List R) (fields : List ℕ)
    (row : List Cell) (number : ℕ) : Type 0 where
  pub are : (d : R) → AreCellsTo (length fields) fields (classes_of (slice_index_or regions number d)) row

-- in each part, the row's cells are cells for the classes of the part's regions
abbrev pub IsRowFor : {R : Type 0} → (R → List Class) → List R → List Part → List Cell → Type 0
IsRowFor classes_of regions parts row =
    All (λ part. All (HasCellsOf classes_of regions part.fields row) part.regions) parts

-- the questions changed no region's fields, classes or rows, and lowered no region's number of questions
pub record KeepRegions {R : Type 0} (fields_of : R → List ℕ) (classes_of : R → List Class) (asked_of : R → ℕ)
    (Has : R → List Cell → Type 0) (old new : List R) : Type 0 where
  pub count : length new ≡ length old
  pub fields : (n : ℕ) (d : R) → n < length old
      → fields_of (slice_index_or new n d) ≡ fields_of (slice_index_or old n d)
  pub classes : (n : ℕ) (d : R) → n < length old
      → classes_of (slice_index_or new n d) ≡ classes_of (slice_index_or old n d)
  pub asked : (n : ℕ) (d : R) → n < length old
      → asked_of (slice_index_or old n d) ≤ asked_of (slice_index_or new n d)
  pub rows : (n : ℕ) (d : R) (cells : List Cell) → n < length old
      → Has (slice_index_or new n d) cells ↔ Has (slice_index_or old n d) cells

-- The walk over parts: the parts, their regions, the number of fields, and the place, nothing or a row.
pub record Walk (R : Type 0) : Type 0 where
  pub parts : List Part
  pub regions : List R
  pub fields : ℕ
  pub place : Option (List Cell)

-- Where no part has more regions than a bound, the regions were asked at most so many times for each field and each
-- region of the bound.
abbrev pub AsksAtMost : {R : Type 0} → (R → ℕ) → ℕ → Walk R → List R → Type 0
AsksAtMost asked times old new = (bound : ℕ) → All (λ part. length part.regions ≤ bound) old.parts
    → sum_by asked new ≤ sum_by asked old.regions + times * (old.fields * bound)

-- the rows in a walk's parts
abbrev pub InWalk : {R : Type 0} → (R → List Cell → Type 0) → Walk R → List Cell → Type 0
InWalk Has walk row = IsInParts (HasAt Has walk.regions) walk.fields walk.parts row

-- how many first cells of the new place are those of the old one: none where that is nothing
abbrev pub IsKept : ℕ → Option (List Cell) → List Cell → Type 0
IsKept kept None row = kept ≡ 0
IsKept kept (Some old) row = IsFirstChange kept old row

-- the new place is the next row of a set
pub record IsNextPlace (In : List Cell → Type 0) (old new : Option (List Cell)) (kept : ℕ) : Type 0 where
  pub row : List Cell
  pub place : new ≡ Some row
  pub next : IsNextRow In old row
  pub first : IsKept kept old row

-- no row of a set is above the place, which stays
pub record IsAtEnd (In : List Cell → Type 0) (old new : Option (List Cell)) : Type 0 where
  pub place : new ≡ old
  pub none : (row : List Cell) → In row → ¬ (IsAbove old row)

-- a call changed the place and the number of questions, which fell for no region, and nothing else
pub record KeepsParts {R : Type 0} (fields_of : R → List ℕ) (classes_of : R → List Class) (asked_of : R → ℕ)
    (Has : R → List Cell → Type 0) (old new : Walk R) : Type 0 where
  pub parts : new.parts ≡ old.parts
  pub fields : new.fields ≡ old.fields
  pub regions : KeepRegions fields_of classes_of asked_of Has old.regions new.regions

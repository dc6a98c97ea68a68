-- Texts of a list, read beside a text.
use Rattle.std.specs.Prelude.{◌≡◌, ◌↔◌, ℕ, ◌+◌, ◌≤◌, Option, None, Some, List, [], ◌∷◌, length, drop, slice_get, slice_index_or}
use Rattle.std.specs.List.{Contains}
use Rattle.helix_values.specs.declared.cell.Cell.{Cell}
use Rattle.helix_values.specs.declared.cell.Cell.TheVariants as cell

-- the character of a text at a place
abbrev pub code_in : Cell → ℕ → Option ℕ
code_in (cell.Text codes) place = slice_get codes place
code_in other place = None

-- a text whose characters from a place on are these
abbrev pub HasRest : Cell → ℕ → List ℕ → Type 0
HasRest (cell.Text codes) place rest = (place ≤ length codes) × (drop place codes ≡ rest)
HasRest other place rest = ⊥

-- no text of the list with one of the numbers has these characters from a place on
abbrev pub SpellsNone : List Cell → ℕ → List ℕ → List ℕ → Type 0
SpellsNone cells place numbers rest = (number : ℕ) → Contains numbers number
    → ¬ HasRest (slice_index_or cells number cell.Null) place rest

-- those of the numbers whose text has the character at the place
abbrev pub AreFollowing : List Cell → ℕ → List ℕ → ℕ → List ℕ → Type 0
AreFollowing cells place numbers code next = (number : ℕ) → Contains next number
    ↔ (Contains numbers number × (code_in (slice_index_or cells number cell.Null) place ≡ Some code))

-- one place on, or the first one where no number is left
abbrev pub next_place : ℕ → List ℕ → ℕ
next_place place [] = 0
next_place place (number ∷ numbers) = place + 1

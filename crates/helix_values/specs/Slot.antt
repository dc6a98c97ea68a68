-- What a slot holds.
use Rattle.std.specs.Prelude.{ℕ, ◌<◌, ◌≤◌, List, [], ◌∷◌, ◌++◌, take, length}
use Rattle.helix_values.specs.declared.cell.Cell.{Cell}
use Rattle.helix_values.specs.declared.cell.Cell.TheVariants as cell
use Rattle.helix_values.specs.declared.held.Held.{Held}
use Rattle.helix_values.specs.declared.held.Held.TheVariants as held

-- the cell that is held, a text with the characters in the slot
abbrev pub cell_held : Held → List ℕ → Cell
cell_held held.Null characters = cell.Null
cell_held (held.Bool truth) characters = cell.Bool truth
cell_held (held.Number units) characters = cell.Number units
cell_held (held.Moment at) characters = cell.Moment at
cell_held held.Text characters = cell.Text characters

-- a cell that fits a slot: a text has at most 1,000 characters
abbrev pub FitsSlot : Cell → Type 0
FitsSlot (cell.Text characters) = length characters ≤ 1000
FitsSlot other = Unit {0}

-- a text that has fewer characters than a slot has room for
abbrev pub HasRoom : Cell → Type 0
HasRoom (cell.Text characters) = length characters < 1000
HasRoom other = ⊥

-- the text with one more character
abbrev pub lengthened : Cell → ℕ → Cell
lengthened (cell.Text characters) code = cell.Text (characters ++ code ∷ [])
lengthened other code = other

-- the first characters of the text; what is no text stays
abbrev pub shortened : Cell → ℕ → Cell
shortened (cell.Text characters) count = cell.Text (take count characters)
shortened other count = other

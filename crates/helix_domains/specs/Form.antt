-- The form in which a domain has its values.
use Rattle.std.specs.Prelude.{◌↔◌, List}
use Rattle.std.specs.List.{AllPairs, Contains}
use Rattle.helix_values.specs.Order.{CellLess}
use Rattle.helix_values.specs.declared.cell.Cell.{Cell}
use Rattle.helix_words.specs.Words.{WordSet, IsWordCell}

-- all values in a list, numbers or moments on a grid, or words
pub data Form : Type 0 where
  listed : List Cell → Form
  on_grid : Form
  spelt : WordSet → Form

-- each cell comes before all that follow it
abbrev pub AreAscending : List Cell → Type 0
AreAscending cells = AllPairs CellLess cells

-- a set has the cells of a list, in order and each once, or the words
abbrev pub HasForm : (Cell → Type 0) → Form → Type 0
HasForm Has (listed cells) = AreAscending cells × ((v : Cell) → Has v ↔ Contains cells v)
HasForm Has on_grid = Unit {0}
HasForm Has (spelt words) = (v : Cell) → Has v ↔ IsWordCell words v

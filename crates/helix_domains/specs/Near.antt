-- What an asker keeps near a value of a domain, and the answer to the question for the next value.
use Rattle.std.specs.Prelude.{◌≡◌, ◌<◌, Bool, true, false, length, slice_index_or}
use Rattle.helix_values.specs.Order.{CellLess}
use Rattle.helix_values.specs.declared.cell.Cell.{Cell}
use Rattle.helix_values.specs.declared.cell.Cell.TheVariants as cell
use Rattle.helix_words.specs.Trails.{IsAlong}
use Rattle.helix_words.specs.Words.{HasRoomFor}
use Rattle.helix_domains.specs.Domain.{Restricted, IsInDomain}
use Rattle.helix_domains.specs.Form.{Form, listed, on_grid, spelt}
use Rattle.helix_domains.specs.declared.near.Near.{Near}
use Rattle.helix_domains.specs.declared.near.Near.TheVariants as near

-- what is kept fits each value: there is room for all words
abbrev pub HasRoomNear : Form → Near → Type 0
HasRoomNear (listed cells) (near.Listed index) = Unit {0}
HasRoomNear on_grid near.OnGrid = Unit {0}
HasRoomNear (spelt words) (near.Spelt trail) = HasRoomFor words trail.room
HasRoomNear form other = ⊥

-- what is kept is at a value: its index in the list, or its word with the states along it
abbrev pub IsAt : Form → Near → Cell → Type 0
IsAt (listed cells) (near.Listed index) v = (index < length cells) × (slice_index_or cells index v ≡ v)
IsAt on_grid near.OnGrid v = Unit {0}
IsAt (spelt words) (near.Spelt trail) v = IsAlong words trail × (v ≡ cell.Text trail.word)
IsAt form other v = ⊥

-- a value of the domain, at which what is kept is
pub record IsNear (domain : Restricted) (kept : Near) (v : Cell) : Type 0 where
  pub has : IsInDomain domain v
  pub room : HasRoomNear domain.form kept
  pub at : IsAt domain.form kept v

-- v is the least cell of a set above another one
pub record IsLeastAbove (Has : Cell → Type 0) (old v : Cell) : Type 0 where
  pub has : Has v
  pub above : CellLess old v
  pub least : (other : Cell) → Has other → CellLess old other → ¬ (CellLess other v)

-- a slot holds the least cell of a set above the one that it held, or there is none and it is as it was
abbrev pub IsNextAnswer : (Cell → Type 0) → Bool → Cell → Cell → Type 0
IsNextAnswer Has true old new = IsLeastAbove Has old new
IsNextAnswer Has false old new = (new ≡ old) × ((other : Cell) → Has other → ¬ (CellLess old other))

-- What a question does to a slot and to what is kept near its cell.
use Rattle.std.specs.Prelude.{◌≡◌, ℕ, ◌≤◌, Bool, true, false, List, length}
use Rattle.helix_values.specs.declared.cell.Cell.{Cell}
use Rattle.helix_domains.specs.Form.{Form, listed}
use Rattle.helix_domains.specs.Near.{HasRoomNear, IsAt}
use Rattle.helix_domains.specs.declared.near.Near.{Near}
use Rattle.helix_domains.specs.declared.near.Near.TheVariants as near

-- the index that is kept, if one is
abbrev pub index_kept : Near → ℕ
index_kept (near.Listed index) = index
index_kept other = 0

-- a slot holds the cell with an index, which is kept, or the list ends before it and both stay
abbrev pub TakesAt : List Cell → ℕ → Bool → Cell → Cell → Near → Near → Type 0
TakesAt cells index true old new before after = (after ≡ near.Listed index)
    × IsAt (listed cells) (near.Listed index) new
TakesAt cells index false old new before after = (length cells ≤ index) × (new ≡ old) × (after ≡ before)

-- what is kept is at the new cell and fits each value, or stays
abbrev pub KeepsAt : Form → Bool → Near → Near → Cell → Type 0
KeepsAt form true before after v = HasRoomNear form after × IsAt form after v
KeepsAt form false before after v = after ≡ before

-- Small numbers and gaps between them, for tests.
use Rattle.std.specs.Prelude.{◌≡◌, ◌≢◌, ℕ, ◌<◌, ℤ, pos, ◌+ℤ◌, ◌≤ℤ◌, ◌<ℤ◌, Bool, true, false, Option, None, Some, List, length, slice_index_or}
use Rattle.std.specs.List.{All}
use Rattle.helix_values.specs.declared.cell.Cell.{Cell}
use Rattle.helix_values.specs.declared.cell.Cell.TheVariants as cell
use Rattle.helix_values.specs.Class.{numbers}
use Rattle.helix_search.specs.declared.node.Node.{Node}
use Rattle.helix_search.specs.declared.node.Neighbour.{Neighbour}
use Rattle.helix_search.specs.declared.tree.Tree.{Tree}
use Rattle.helix_search.specs.Bounds.{IsValue}
use Rattle.helix_search.specs.Trees.{fixed_cell}

-- a number from 0 to 255
abbrev pub IsByte : ℤ → Type 0
IsByte u = (pos 0 ≤ℤ u) × (u ≤ℤ pos 255)

-- a number of a span
abbrev pub HasNumber : ℕ → ℕ → Cell → Type 0
HasNumber low high (cell.Number u) = IsByte u × (pos low ≤ℤ u) × (u ≤ℤ pos high)
HasNumber low high value = ⊥

-- the number of a cell
abbrev pub units_of : Cell → ℤ
units_of (cell.Number u) = u
units_of value = pos 0

-- the child is more than so much above the parent, or below it, or another number
abbrev pub MeetsLower : Option ℕ → Cell → Cell → Type 0
MeetsLower (Some by) p v = (units_of p +ℤ pos by) <ℤ units_of v
MeetsLower None p v = Unit {0}

abbrev pub MeetsUpper : Option ℕ → Cell → Cell → Type 0
MeetsUpper (Some by) p v = (units_of v +ℤ pos by) <ℤ units_of p
MeetsUpper None p v = Unit {0}

abbrev pub IsAllowed : Bool → Cell → Cell → Type 0
IsAllowed true p v = units_of v ≢ units_of p
IsAllowed false p v = Unit {0}

-- a neighbour is a node, says the same both ways, and has a number if it is fixed
pub record IsSmallNeighbour {V K : Type 0} (above below : K → Option ℕ) (other : K → Bool) (tree : Tree V K)
    (n : Neighbour K) : Type 0 where
  pub within : n.node < length tree.nodes.now
  pub same_above : above n.down ≡ below n.up
  pub same_below : below n.down ≡ above n.up
  pub same_other : other n.down ≡ other n.up
  pub fixed : n.node < tree.fixed → IsValue numbers (fixed_cell tree n.node)

-- none of the neighbours before one is the same node
abbrev pub IsNew : {K : Type 0} → List (Neighbour K) → ℕ → Type 0
IsNew ns i = (j : ℕ) (d : Neighbour _) → j < i → (slice_index_or ns j d).node ≢ (slice_index_or ns i d).node

abbrev pub AllWithinNew : {K : Type 0} → List (Neighbour K) → ℕ → Type 0
AllWithinNew ns count = (i : ℕ) → i < count → IsNew ns i

-- all neighbours of a node are so, and are there once
pub record IsSmallNode {V K : Type 0} (above below : K → Option ℕ) (other : K → Bool) (tree : Tree V K)
    (node : Node V K) : Type 0 where
  pub each : All (IsSmallNeighbour above below other tree) node.neighbours
  pub once : AllWithinNew node.neighbours (length node.neighbours)

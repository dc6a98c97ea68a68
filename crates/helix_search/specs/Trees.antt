-- Nodes of which some are fixed.
use Rattle.std.specs.Prelude.{◌≡◌, ℕ, ◌<◌, List, Option, None, Some, length, slice_get, slice_index_or}
use Rattle.std.specs.List.{All}
use Rattle.helix_values.specs.declared.cell.Cell.{Cell}
use Rattle.helix_values.specs.declared.cell.Cell.TheVariants as cell
use Rattle.helix_values.specs.declared.mark.Mark.{Mark}
use Rattle.helix_values.specs.Class.{Class}
use Rattle.helix_values.specs.Counts.{IsMarkOf}
use Rattle.helix_search.specs.declared.node.Node.{Node}
use Rattle.helix_search.specs.declared.tree.Tree.{Tree}
use Rattle.helix_search.specs.Bounds.{IsValue}
use Rattle.helix_search.specs.Extending.{Extends}
use Rattle.helix_search.specs.Nodes.{graph_of, fixed_of}

-- the cells of a node of a tree that extend
abbrev pub ExtendsIn : {V K : Type 0} → (V → Cell → Type 0) → (K → Cell → Cell → Type 0) → Tree V K → ℕ → Option ℕ → ℕ
    → Cell → Type 0
ExtendsIn Has Stand tree depth from u v =
    Extends (graph_of Has Stand tree.nodes.now) (fixed_of tree.nodes.now tree.row.now tree.fixed) depth from u v

-- the cell of a node in a row, null where there is no node
abbrev pub cell_at : {V K : Type 0} → List Cell → Option (Node V K) → Cell
cell_at row None = cell.Null
cell_at row (Some node) = slice_index_or row node.place cell.Null

abbrev pub fixed_cell : {V K : Type 0} → Tree V K → ℕ → Cell
fixed_cell tree u = cell_at tree.row.now (slice_get tree.nodes.now u)

-- there is a node that has a cell in a row
abbrev pub HasPlace : {V K : Type 0} → ℕ → Option (Node V K) → Type 0
HasPlace cells None = ⊥
HasPlace cells (Some node) = node.place < cells

abbrev pub HasFixedCell : {V K : Type 0} → Tree V K → ℕ → Type 0
HasFixedCell tree u = HasPlace (length tree.row.now) (slice_get tree.nodes.now u)

-- the fixed neighbours of each node have values of the node's class
abbrev pub AreFixed : {V K : Type 0} → (V → Class) → Tree V K → Type 0
AreFixed class tree = (u : ℕ) (node : Node _ _) → slice_get tree.nodes.now u ≡ Some node
    → All (λ n. n.node < tree.fixed → IsValue (class node.values) (fixed_cell tree n.node)) node.neighbours

-- there is a node, and the mark can be asked of its values
abbrev pub IsMarkAt : {V K : Type 0} → (V → Class) → Mark → Option (Node V K) → Type 0
IsMarkAt class mark None = ⊥
IsMarkAt class mark (Some node) = IsMarkOf (class node.values) mark

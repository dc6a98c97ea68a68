-- Rows of cells for the nodes of a graph whose pairs are those of a forest of relations.
use Rattle.std.specs.Prelude.{◌≡◌, ℕ, ◌<◌, ◌↔◌, List, Option, Some, Contains}
use Rattle.std.specs.List.{All}
use Rattle.helix_values.specs.declared.cell.Cell.{Cell}
use Rattle.helix_profile.specs.declared.relation.Relation.{Relation}
use Rattle.helix_profile.specs.Forest.{AreJoined, IsForest}
use Rattle.helix_forest.specs.Closing.{HasEndsBelow, AreLinked}
use Rattle.helix_search.specs.Extending.{Graph}

-- The relations are a forest of so many nodes, the neighbours of a node are those that relations join with it, and
-- cells that stand the links of a pair stand them from its other end too.
pub record IsForestOf (graph : Graph) (relations : List Relation) (nodes : ℕ) : Type 0 where
  pub forest : IsForest relations
  pub ends : All (HasEndsBelow nodes) relations
  pub neighbours : (u c : ℕ) → u < nodes → Contains (graph.neighbours u) c ↔ AreJoined relations u c
  pub inverse : (u c : ℕ) (p v : Cell) → AreJoined relations u c → graph.Has u p → graph.Has c v
      → graph.Joined u c p v → graph.Joined c u v p

-- each node has one of its cells, and each pair of neighbours stands its links
pub record IsGoodRow (graph : Graph) (nodes : ℕ) (row : ℕ → Cell) : Type 0 where
  pub has : (u : ℕ) → u < nodes → graph.Has u (row u)
  pub joined : (u c : ℕ) → u < nodes → Contains (graph.neighbours u) c → graph.Joined u c (row u) (row c)

-- the row has each fixed cell
abbrev pub HasFixed : (ℕ → Option Cell) → (ℕ → Cell) → Type 0
HasFixed fixed row = (u : ℕ) (v : Cell) → fixed u ≡ Some v → row u ≡ v

-- some good row has the fixed cells, and this cell at the node
pub record IsInSomeRow (graph : Graph) (nodes : ℕ) (fixed : ℕ → Option Cell) (u : ℕ) (v : Cell) : Type 0 where
  pub row : ℕ → Cell
  pub good : IsGoodRow graph nodes row
  pub has_fixed : HasFixed fixed row
  pub is : row u ≡ v

-- relations lead to the node from no node before it
abbrev pub IsFirstOfTree : List Relation → ℕ → Type 0
IsFirstOfTree relations u = (x : ℕ) → x < u → ¬ AreLinked relations x u

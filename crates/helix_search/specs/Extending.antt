-- The cells of a node that extend over the nodes that are seen from it.
use Rattle.std.specs.Prelude.{◌≢◌, ℕ, zero, suc, List, Option, None, Some}
use Rattle.std.specs.List.{Contains}
use Rattle.helix_values.specs.declared.cell.Cell.{Cell}

-- nodes, each with the cells that it can have and with its neighbours
pub record Graph : Type 1 where
  pub Has : ℕ → Cell → Type 0
  -- Joined u c v w: the cells v of u and w of its neighbour c stand what joins the two
  pub Joined : ℕ → ℕ → Cell → Cell → Type 0
  pub neighbours : ℕ → List ℕ

-- the neighbour has a cell that stands what joins it: its fixed one, or where none is fixed one that extends
abbrev pub HasPartner : (Cell → Type 0) → (Cell → Type 0) → Option Cell → Type 0
HasPartner Stands ExtendsOn (Some w) = Stands w
HasPartner Stands ExtendsOn None = (w : Cell) × ExtendsOn w × Stands w

-- A cell of node u extends over the nodes that are seen from it, other than through `from`: each neighbour has a cell
-- with it. Nothing is seen through a fixed neighbour, and at most `depth` nodes in a row are looked at.
abbrev pub Extends : Graph → (ℕ → Option Cell) → ℕ → Option ℕ → ℕ → Cell → Type 0
Extends g fixed zero from u v = ⊥
Extends g fixed (suc depth) from u v = g.Has u v × ((c : ℕ) → Contains (g.neighbours u) c → from ≢ Some c
    → HasPartner (λ w. g.Joined u c v w) (λ w. Extends g fixed depth (Some u) c w) (fixed c))

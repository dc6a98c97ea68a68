-- The graph that a search goes through in the place of a region's.
use Rattle.std.specs.Prelude.{ℕ, ◌<◌, ◌↔◌, length, Contains}
use Rattle.helix_values.specs.declared.cell.Cell.{Cell}
use Rattle.helix_search.specs.Extending.{Graph}
use Rattle.helix_relations.specs.Region.{RegionContent}
use Rattle.helix_relations.specs.RegionGraph.{graph_of}

-- a field that some relation joins with another one
abbrev pub IsRelated : RegionContent → ℕ → Type 0
IsRelated region u = (u < length region.fields) × ((c : ℕ) × Contains ((graph_of region).neighbours u) c)

-- A graph with the same neighbours, and for related fields the same cells, of which the same stand together.
pub record IsSearchGraph (region : RegionContent) (search : Graph) : Type 0 where
  pub neighbours : (u c : ℕ) → u < length region.fields
      → Contains (search.neighbours u) c ↔ Contains ((graph_of region).neighbours u) c
  pub has : (u : ℕ) (v : Cell) → IsRelated region u → search.Has u v ↔ (graph_of region).Has u v
  pub joined : (u c : ℕ) (v w : Cell) → IsRelated region u → Contains (search.neighbours u) c → search.Has u v
      → search.Has c w → search.Joined u c v w ↔ (graph_of region).Joined u c v w

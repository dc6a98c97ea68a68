-- What a search through the fields of a region looks at.
use Rattle.std.specs.Prelude.{◌≡◌, ℕ, ◌+◌, ◌-◌, ◌<◌, List, None, Some, length}
use Rattle.helix_search.specs.declared.level.Level.{Level}
use Rattle.helix_search.specs.Extending.{Extends}
use Rattle.helix_values.specs.declared.cell.Cell.{Cell}
use Rattle.helix_relations.specs.declared.search.Fields.{Fields}
use Rattle.helix_relations.specs.Region.{RegionContent}
use Rattle.helix_relations.specs.RegionGraph.{graph_of, fixed_by}
use Rattle.helix_relations.specs.Inner.Kept.{IsKept}
use Rattle.helix_relations.specs.Inner.Parts.{content_of}

-- the region that the fields are of
abbrev pub region_of : Fields → RegionContent
region_of fields = content_of fields.nodes.now fields.relations.now 0

-- all that is kept of it, with room for a search
abbrev pub AreKept : Fields → List Level → Type 0
AreKept fields levels = IsKept fields.nodes.now fields.relations.now levels 0

-- the cells that a row fixes are cells of their fields
abbrev pub AreCellsFixed : RegionContent → List Cell → ℕ → Type 0
AreCellsFixed region row fixed = (u : ℕ) (v : Cell) → u < length region.fields
    → fixed_by region row fixed u ≡ Some v → (graph_of region).Has u v

-- as many fields in a row as a search looks at, no fewer than there are
abbrev pub depth_for : ℕ → ℕ → ℕ
depth_for count room = count + (room - count)

-- some cell of the field extends where nothing is fixed
abbrev pub HasSome : RegionContent → ℕ → ℕ → Type 0
HasSome region depth u = (v : Cell) × Extends (graph_of region) (λ other. None) depth None u v

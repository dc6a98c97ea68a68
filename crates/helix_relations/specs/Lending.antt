-- How a region of a list is lent.
use Rattle.std.specs.Prelude.{ℕ, List, slice_set}
use Rattle.std.specs.Borrow.{Lends, MutBor, Fml}
use Rattle.helix_relations.specs.Region.{RegionContent}
use Rattle.helix_relations.specs.contracts.region.Region.{the_row as region_row}
use Rattle.helix_relations.specs.contracts.regions.Regions.{the_row as regions_row}

-- the list ends with this region as the borrower leaves it
abbrev pub LendsRegion : MutBor (List RegionContent) → ℕ → MutBor RegionContent → Fml
LendsRegion regions i region = Lends regions_row region_row regions region (slice_set regions.now i)

-- What is promised of the regions of a part.
use Rattle.std.specs.Prelude.{◌≡◌, ◌↔◌, ◌≤◌, true, List, Some, length, slice_get}
use Rattle.std.specs.List.{AllByRecursion, AllPairs, Any}
use Rattle.helix_profile.specs.Content.{Content}
use Rattle.helix_profile.specs.Good.{AreCellsOf}
use Rattle.helix_profile.specs.Satisfaction.{AllSatisfied}
use Rattle.helix_profile.specs.Width.{product_of_widths}
use Rattle.helix_partition.specs.declared.partition.Partition.{Partition}
use Rattle.helix_relations.specs.Region.{RegionContent, numbers_of, IsRegion, IsRegionRow}
use Rattle.helix_values.specs.declared.cell.Cell.{Cell}
use Rattle.helix_options.specs.Paths.{constraints_of}

-- a region over the part's fields, as they are in the profile, that has a row
pub record IsRegionOver (profile : Content) (part : Partition) (region : RegionContent) : Type 0 where
  pub is_region : IsRegion region
  pub numbers : numbers_of region.fields ≡ part.fields
  pub fields : AllByRecursion (λ field. slice_get profile.fields field.number ≡ Some field.field) region.fields
  pub some_row : (row : List Cell) × IsRegionRow region row

-- The row satisfies the constraints of the part where it is one of some region, and no row is one of two regions. Only
-- rows of cells of the profile's fields are meant.
pub record AreRegionsFor (profile : Content) (part : Partition) (regions : List RegionContent) : Type 0 where
  pub each : AllByRecursion (IsRegionOver profile part) regions
  pub disjoint : AllPairs (λ one other. (row : List Cell) → AreCellsOf profile.fields row
      → IsRegionRow one row → ¬ IsRegionRow other row) regions
  pub satisfied : (row : List Cell) → AreCellsOf profile.fields row
      → AllSatisfied (constraints_of profile part) row true ↔ Any (λ region. IsRegionRow region row) regions

-- there are at most as many regions as the product of the widths of the part's constraints
abbrev pub AreFewRegionsFor : Content → Partition → List RegionContent → Type 0
AreFewRegionsFor profile part regions =
    length regions ≤ product_of_widths (λ _. true) (constraints_of profile part)

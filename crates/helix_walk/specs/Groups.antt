-- Regions of the groups of a profile.
use Rattle.std.specs.Prelude.{List, [], ◌∷◌}
use Rattle.std.specs.List.{Any}
use Rattle.helix_options.specs.Regions.{AreRegionsFor}
use Rattle.helix_partition.specs.declared.partition.Partition.{Partition}
use Rattle.helix_profile.specs.Content.{Content}
use Rattle.helix_relations.specs.Region.{RegionContent, IsRegionRow}
use Rattle.helix_values.specs.declared.cell.Cell.{Cell}

-- a list of regions for each group
abbrev pub AreRegionsOfEach : Content → List Partition → List (List RegionContent) → Type 0
AreRegionsOfEach profile [] [] = Unit {0}
AreRegionsOfEach profile (group ∷ groups) (regions ∷ others) =
    AreRegionsFor profile group regions × AreRegionsOfEach profile groups others
AreRegionsOfEach profile groups others = ⊥

-- the row is one of some region of each list
abbrev pub IsRowOfEach : List (List RegionContent) → List Cell → Type 0
IsRowOfEach [] row = Unit {0}
IsRowOfEach (regions ∷ others) row = Any (λ region. IsRegionRow region row) regions × IsRowOfEach others row

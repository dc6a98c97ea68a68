-- The parts of a walk, one for each group of a profile, with their regions among all regions.
use Rattle.std.specs.Prelude.{◌≡◌, ℕ, ◌<◌, ◌≤◌, true, List, [], ◌∷◌, length, slice_get}
use Rattle.std.specs.List.{All, filter_map}
use Rattle.helix_options.specs.Paths.{constraints_of}
use Rattle.helix_options.specs.Regions.{AreRegionsFor}
use Rattle.helix_partition.specs.declared.partition.Partition.{Partition}
use Rattle.helix_profile.specs.Content.{Content}
use Rattle.helix_profile.specs.Width.{product_of_widths}
use Rattle.helix_relations.specs.Region.{RegionContent}
use Rattle.helix_rows.specs.declared.part.Part.{Part}

-- the regions with these numbers
abbrev pub with_numbers : List RegionContent → List ℕ → List RegionContent
with_numbers regions numbers = filter_map (slice_get regions) numbers

-- the part is over the fields of the group, and its regions are regions for the group
pub record IsPartFor (profile : Content) (regions : List RegionContent) (group : Partition)
    (part : Part) : Type 0 where
  pub fields : part.fields ≡ group.fields
  pub within : All (λ number. number < length regions) part.regions
  pub are : AreRegionsFor profile group (with_numbers regions part.regions)
  pub few : length part.regions ≤ product_of_widths (λ _. true) (constraints_of profile group)

-- one part for each group
abbrev pub ArePartsFor : Content → List RegionContent → List Partition → List Part → Type 0
ArePartsFor profile regions [] [] = Unit {0}
ArePartsFor profile regions (group ∷ groups) (part ∷ parts) =
    IsPartFor profile regions group part × ArePartsFor profile regions groups parts
ArePartsFor profile regions groups parts = ⊥

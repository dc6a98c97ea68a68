-- The rows in the parts of a walk are the good rows of the profile.
use Rattle.std.proofs.Common.{◌≡◌, ◌↔◌, List, [], ◌∷◌, map, length}
use Rattle.std.specs.List.{All, AllByRecursion}
use Rattle.helix_partition.specs.Groups.{IsPartition}
use Rattle.helix_partition.specs.declared.partition.Partition.{Partition}
use Rattle.helix_profile.specs.Content.{Content}
use Rattle.helix_profile.specs.Good.{IsGood}
use Rattle.helix_relations.specs.NumberingLaws.{all_of}
use Rattle.helix_relations.specs.Region.{RegionContent, numbers_of, IsRegion, IsRegionRow}
use Rattle.helix_rows.specs.Parts.{HasAt, IsInPart, IsInParts, IsRegionOver}
use Rattle.helix_rows.specs.Regions.{piece}
use Rattle.helix_rows.specs.declared.part.Part.{Part}
use Rattle.helix_values.specs.declared.cell.Cell.{Cell}
use Rattle.helix_walk.proofs.GoodRows.{good_in_each}
use Rattle.helix_walk.proofs.Listed.{by_recursion}
use Rattle.helix_walk.proofs.OnePart.{in_part, of_part, over_fields, some_row}
use Rattle.helix_walk.proofs.SharedFields.{each_part}
use Rattle.helix_walk.specs.Groups.{AreRegionsOfEach, IsRowOfEach}
use Rattle.helix_walk.specs.Parts.{with_numbers, ArePartsFor}

-- the regions of each part
abbrev lists_of : List RegionContent → List Part → List (List RegionContent)
lists_of regions parts = map (λ part. with_numbers regions part.regions) parts

module _ (profile : Content) (regions : List RegionContent) where
  of_each : (groups : List Partition) (parts : List Part) → ArePartsFor profile regions groups parts
      → AreRegionsOfEach profile groups (lists_of regions parts)
  of_each [] [] are = tt
  of_each (group ∷ groups) (part ∷ parts) are = (are.0.are, of_each groups parts are.1)
  of_each [] (part ∷ parts) are = absurd are
  of_each (group ∷ groups) [] are = absurd are

  pub all_over : (groups : List Partition) (parts : List Part) → ArePartsFor profile regions groups parts
      → All (λ part. All (IsRegionOver (λ r. numbers_of r.fields) regions part.fields) part.regions) parts
  all_over groups parts are =
      all_of (λ part. All (IsRegionOver (λ r. numbers_of r.fields) regions part.fields) part.regions) parts
      (each_part profile regions
      (λ part. All (IsRegionOver (λ r. numbers_of r.fields) regions part.fields) part.regions) groups parts are
      (over_fields profile regions))

  module _ (Has : RegionContent → List Cell → Type 0)
      (own : (region : RegionContent) → IsRegion region → (row : List Cell)
      → Has region (piece (numbers_of region.fields) row) ↔ IsRegionRow region row) where
    pub all_have_rows : (groups : List Partition) (parts : List Part) → ArePartsFor profile regions groups parts
        → All (λ part. All (λ number. (cells : List Cell) × HasAt Has regions number cells) part.regions) parts
    all_have_rows groups parts are =
        all_of (λ part. All (λ number. (cells : List Cell) × HasAt Has regions number cells) part.regions) parts
        (each_part profile regions
        (λ part. All (λ number. (cells : List Cell) × HasAt Has regions number cells) part.regions) groups parts are
        (λ group part is. some_row profile regions group part is Has own))

    abbrev IsIn : List Cell → Part → Type 0
    IsIn row part = IsInPart (HasAt Has regions) part.regions (piece part.fields row)

    in_each : (row : List Cell) (groups : List Partition) (parts : List Part)
        → ArePartsFor profile regions groups parts → AllByRecursion (IsIn row) parts
        → IsRowOfEach (lists_of regions parts) row
    in_each row [] [] are all = tt
    in_each row (group ∷ groups) (part ∷ parts) are all =
        (in_part profile regions group part are.0 Has own row all.0, in_each row groups parts are.1 all.1)
    in_each row [] (part ∷ parts) are all = absurd are
    in_each row (group ∷ groups) [] are all = absurd are

    from_each : (row : List Cell) (groups : List Partition) (parts : List Part)
        → ArePartsFor profile regions groups parts → IsRowOfEach (lists_of regions parts) row
        → AllByRecursion (IsIn row) parts
    from_each row [] [] are rows = tt
    from_each row (group ∷ groups) (part ∷ parts) are rows =
        (of_part profile regions group part are.0 Has own row rows.0, from_each row groups parts are.1 rows.1)
    from_each row [] (part ∷ parts) are rows = absurd are
    from_each row (group ∷ groups) [] are rows = absurd are

    pub good_in_parts : (groups : List Partition) (parts : List Part) → IsPartition profile groups
        → ArePartsFor profile regions groups parts → (row : List Cell)
        → IsInParts (HasAt Has regions) (length profile.fields) parts row ↔ IsGood profile row
    good_in_parts groups parts partition are row =
        let exact : IsGood profile row
        ↔ ((length row ≡ length profile.fields) × IsRowOfEach (lists_of regions parts) row) =
        good_in_each profile row groups (lists_of regions parts) partition (of_each groups parts are) in (
          (λ in_parts. exact.1 (
            in_parts.count,
            in_each row groups parts are (by_recursion (IsIn row) parts in_parts.each),
          )),
          (λ good. record {
            count = (exact.0 good).0;
            each = all_of (IsIn row) parts (from_each row groups parts are (exact.0 good).1);
          }),
        )

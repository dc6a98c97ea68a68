-- The good rows of a profile are the rows of regions of all its groups.
use Rattle.std.proofs.Common.{◌≡◌, ◌↔◌, ℕ, true, Some, inl, inr, List, [], ◌∷◌, length, slice_get, Contains, Any, sym, subst, ap, ◌∙◌}
use Rattle.std.proofs.lemmas.Option.{same_Some, slice_get_within}
use Rattle.helix_options.specs.Regions.{IsRegionOver, AreRegionsFor}
use Rattle.helix_partition.specs.Groups.{OfExactlyOne, IsPartition}
use Rattle.helix_partition.specs.declared.partition.Partition.{Partition}
use Rattle.helix_profile.specs.Content.{Content}
use Rattle.helix_profile.specs.Good.{IsCellOf, AreCellsOf, IsGood}
use Rattle.helix_profile.specs.Satisfaction.{cell_at, Satisfies}
use Rattle.helix_profile.specs.declared.constraint.Constraint.{Constraint}
use Rattle.helix_profile.specs.declared.field.Field.{Field}
use Rattle.helix_relations.specs.Region.{RegionContent, IsRegionCell, IsRegionRow}
use Rattle.helix_values.specs.declared.cell.Cell.{Cell}
use Rattle.helix_walk.proofs.CellsByField.{as_many_cells, cells_by_field}
use Rattle.helix_walk.proofs.Constraints.{of_profile, of_part, by_number}
use Rattle.helix_walk.proofs.Listed.{of_contained, mapped}
use Rattle.helix_walk.specs.Groups.{AreRegionsOfEach, IsRowOfEach}

-- a region of a group, of which the row is one
record HasRegion (profile : Content) (row : List Cell) (Fact : Partition → Type 0) : Type 0 where
  group : Partition
  fact : Fact group
  regions : List RegionContent
  are : AreRegionsFor profile group regions
  some : Any (λ region. IsRegionRow region row) regions

module _ (profile : Content) (row : List Cell) where
  -- the group of which a fact holds
  found : (Fact : Partition → Type 0) (groups : List Partition) (lists : List (List RegionContent))
      → OfExactlyOne Fact groups → AreRegionsOfEach profile groups lists → IsRowOfEach lists row
      → HasRegion profile row Fact
  found Fact [] lists none are rows = absurd none
  found Fact (group ∷ groups) [] one are rows = absurd are
  found Fact (group ∷ groups) (regions ∷ lists) (inl here) are rows =
      record { group = group; fact = here.0; regions = regions; are = are.0; some = rows.0 }
  found Fact (group ∷ groups) (regions ∷ lists) (inr later) are rows =
      found Fact groups lists later.1 are.1 rows.1

  -- a region's row has a cell of each of its fields
  cell_of_region : (group : Partition) (region : RegionContent) → IsRegionOver profile group region
      → IsRegionRow region row → (number : ℕ) (field : Field) → Contains group.fields number
      → slice_get profile.fields number ≡ Some field → IsCellOf field (cell_at row number)
  cell_of_region group region over is_row number field contains is =
      let own = mapped (λ f. f.number) region.fields number
      (subst (λ ns. Contains ns number) (sym over.numbers) contains) in
      let there : slice_get profile.fields own.0.number ≡ Some own.0.field =
      of_contained (λ f. slice_get profile.fields f.number ≡ Some f.field) region.fields own.0 over.fields own.1 in
      let same : own.0.field ≡ field =
      same_Some own.0.field field (sym there ∙ (ap (slice_get profile.fields) own.2 ∙ is)) in
      let cell : IsRegionCell own.0 (cell_at row own.0.number) =
      of_contained (λ f. IsRegionCell f (cell_at row f.number)) region.fields own.0 is_row.cells own.1 in
      subst (λ f. IsCellOf f (cell_at row number)) same
      (subst (λ n. IsCellOf own.0.field (cell_at row n)) own.2 cell.of_field)

  each_cell : (groups : List Partition) (lists : List (List RegionContent)) → IsPartition profile groups
      → AreRegionsOfEach profile groups lists → IsRowOfEach lists row → (number : ℕ) (field : Field)
      → slice_get profile.fields number ≡ Some field → IsCellOf field (cell_at row number)
  each_cell groups lists partition are rows number field is =
      let has : HasRegion profile row (λ group. Contains group.fields number) =
      found (λ group. Contains group.fields number) groups lists
      (partition.each_field number (slice_get_within profile.fields number field is)) are rows in
      let region : RegionContent = has.some.1 in
      cell_of_region has.group region
      (of_contained (IsRegionOver profile has.group) has.regions region has.are.each
      (has.some.0, has.some.2, has.some.3)) has.some.4 number field has.fact is

  each_constraint : (groups : List Partition) (lists : List (List RegionContent)) → IsPartition profile groups
      → AreRegionsOfEach profile groups lists → IsRowOfEach lists row → AreCellsOf profile.fields row
      → (number : ℕ) (c : Constraint) → slice_get profile.constraints number ≡ Some c → Satisfies c row true
  each_constraint groups lists partition are rows cells number c is =
      let has : HasRegion profile row (λ group. Contains group.constraints number) =
      found (λ group. Contains group.constraints number) groups lists
      (partition.each_constraint number (slice_get_within profile.constraints number c is)) are rows in
      of_part row profile has.group number c ((has.are.satisfied row cells).1 has.some) has.fact is

  in_each : (groups : List Partition) (lists : List (List RegionContent)) → AreRegionsOfEach profile groups lists
      → IsGood profile row → IsRowOfEach lists row
  in_each [] [] are good = tt
  in_each (group ∷ groups) (regions ∷ lists) are good = (
    (are.0.satisfied row good.cells).0 (of_profile row profile group good.satisfied),
    in_each groups lists are.1 good,
  )
  in_each [] (regions ∷ lists) are good = absurd are
  in_each (group ∷ groups) [] are good = absurd are

  is_good : (groups : List Partition) (lists : List (List RegionContent)) → IsPartition profile groups
      → AreRegionsOfEach profile groups lists → length row ≡ length profile.fields → IsRowOfEach lists row
      → IsGood profile row
  is_good groups lists partition are count rows =
      let cells : AreCellsOf profile.fields row =
      cells_by_field profile.fields row count (each_cell groups lists partition are rows) in
      record {
        cells = cells;
        satisfied = by_number row profile (each_constraint groups lists partition are rows cells);
      }

  pub good_in_each : (groups : List Partition) (lists : List (List RegionContent)) → IsPartition profile groups
      → AreRegionsOfEach profile groups lists
      → IsGood profile row ↔ ((length row ≡ length profile.fields) × IsRowOfEach lists row)
  good_in_each groups lists partition are = (
    (λ good. (as_many_cells profile.fields row good.cells, in_each groups lists are good)),
    (λ rows. is_good groups lists partition are rows.0 rows.1),
  )

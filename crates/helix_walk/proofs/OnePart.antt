-- A part of the walk and its regions.
use Rattle.std.proofs.Common.{◌≡◌, ◌↔◌, ℕ, zero, suc, ◌<◌, Some, List, [], ◌∷◌, length, slice_get, slice_index_or, Contains, Any, refl, sym, subst, ◌∙◌, arith}
use Rattle.std.proofs.lemmas.List.Elements.{All-contains, All-contains_itself}
use Rattle.std.proofs.lemmas.Option.{slice_get_within, get_or_from_slice_get}
use Rattle.std.specs.List.{All}
use Rattle.helix_options.specs.Regions.{IsRegionOver as IsRegionOf}
use Rattle.helix_partition.specs.declared.partition.Partition.{Partition}
use Rattle.helix_profile.specs.Content.{Content}
use Rattle.helix_relations.specs.Region.{RegionContent, numbers_of, IsRegion, IsRegionRow}
use Rattle.helix_rows.specs.Parts.{HasAt, IsInPart, IsRegionOver}
use Rattle.helix_rows.specs.Regions.{piece}
use Rattle.helix_rows.specs.declared.part.Part.{Part}
use Rattle.helix_values.specs.declared.cell.Cell.{Cell}
use Rattle.helix_walk.proofs.Listed.{of_contained, filtered, is_filtered}
use Rattle.helix_walk.specs.Parts.{with_numbers, IsPartFor}

pub got : {A : Type 0} (xs : List A) (k : ℕ) → k < length xs → (x : A) × (slice_get xs k ≡ Some x)
got [] k within = absurd (omega (arith, within))
got (x ∷ xs) zero within = (x, refl)
got (x ∷ xs) (suc k) within = got xs k (omega (arith, within))

-- a region of a group, that has a number
pub record IsNumbered (profile : Content) (regions : List RegionContent) (group : Partition) (number : ℕ)
    (region : RegionContent) : Type 0 where
  pub has : slice_get regions number ≡ Some region
  pub over : IsRegionOf profile group region

module _ (profile : Content) (regions : List RegionContent) (group : Partition) (part : Part)
    (is : IsPartFor profile regions group part) where
  taken : (number : ℕ) (region : RegionContent) → Contains part.regions number
      → slice_get regions number ≡ Some region → IsNumbered profile regions group number region
  taken number region listed has = record {
    has = has;
    over = of_contained (IsRegionOf profile group) (with_numbers regions part.regions) region is.are.each
        (is_filtered (slice_get regions) part.regions number region listed has);
  }

  pub region_with : (number : ℕ) → Contains part.regions number
      → (region : RegionContent) × IsNumbered profile regions group number region
  region_with number listed =
      let there = got regions number (All-contains (λ n. n < length regions) part.regions number is.within listed) in
      (there.0, taken number there.0 listed there.1)

  -- what holds of the regions of the group holds of those with the part's numbers
  pub of_each : (P : RegionContent → Type 0) → ((region : RegionContent) → IsRegionOf profile group region → P region)
      → (number : ℕ) → Contains part.regions number → (d : RegionContent) → P (slice_index_or regions number d)
  of_each P each number listed d =
      let region = region_with number listed in
      subst P (sym (get_or_from_slice_get regions number region.0 d region.1.has)) (each region.0 region.1.over)

  pub over_fields : All (IsRegionOver (λ r. numbers_of r.fields) regions part.fields) part.regions
  over_fields k d below =
      let listed : Contains part.regions (slice_index_or part.regions k d) =
      All-contains_itself part.regions k d below in
      record {
        within = is.within k d below;
        over = of_each (λ r. numbers_of r.fields ≡ part.fields) (λ region over. over.numbers ∙ sym is.fields)
            (slice_index_or part.regions k d) listed;
      }

  module _ (Has : RegionContent → List Cell → Type 0)
      (own : (region : RegionContent) → IsRegion region → (row : List Cell)
      → Has region (piece (numbers_of region.fields) row) ↔ IsRegionRow region row) where
    own_piece : (region : RegionContent) → IsRegionOf profile group region → (row : List Cell)
        → Has region (piece part.fields row) ↔ IsRegionRow region row
    own_piece region over row = subst (λ ns. Has region (piece ns row) ↔ IsRegionRow region row)
        (over.numbers ∙ sym is.fields) (own region over.is_region row)

    pub in_part : (row : List Cell) → IsInPart (HasAt Has regions) part.regions (piece part.fields row)
        → Any (λ region. IsRegionRow region row) (with_numbers regions part.regions)
    in_part row in_it =
        let region = region_with in_it.number in_it.listed in
        let here : Has region.0 (piece part.fields row) =
        subst (λ r. Has r (piece part.fields row))
        (get_or_from_slice_get regions in_it.number region.0 region.0 region.1.has) (in_it.has.has region.0) in
        let there = is_filtered (slice_get regions) part.regions in_it.number region.0 in_it.listed region.1.has in
        (there.0, region.0, there.1, there.2, (own_piece region.0 region.1.over row).0 here)

    pub of_part : (row : List Cell) → Any (λ region. IsRegionRow region row) (with_numbers regions part.regions)
        → IsInPart (HasAt Has regions) part.regions (piece part.fields row)
    of_part row (k, region, within, at, is_row) =
        let number = filtered (slice_get regions) part.regions region (k, within, at) in
        let here : Has region (piece part.fields row) =
        (own_piece region (taken number.0 region number.1 number.2).over row).1 is_row in
        record {
          number = number.0;
          listed = number.1;
          has = record {
            within = slice_get_within regions number.0 region number.2;
            has = λ d. subst (λ r. Has r (piece part.fields row))
                (sym (get_or_from_slice_get regions number.0 region d number.2)) here;
          };
        }

    pub some_row : All (λ number. (cells : List Cell) × HasAt Has regions number cells) part.regions
    some_row k d below =
        let number : ℕ = slice_index_or part.regions k d in
        let listed : Contains part.regions number = All-contains_itself part.regions k d below in
        let region = region_with number listed in
        let row = region.1.over.some_row in (
          piece part.fields row.0,
          record {
            within = is.within k d below;
            has = λ e. subst (λ r. Has r (piece part.fields row.0))
                (sym (get_or_from_slice_get regions number region.0 e region.1.has))
                ((own_piece region.0 region.1.over row.0).1 row.1);
          },
        )

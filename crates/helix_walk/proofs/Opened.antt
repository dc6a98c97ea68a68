-- What a walk is opened with.
use Rattle.std.proofs.Common.{◌≡◌, ◌↔◌, ℕ, ◌+◌, ◌<◌, ◌≤◌, true, None, List, [], ◌∷◌, ◌++◌, length, take, get_or, slice_index_or, refl, sym, ap, ◌∙◌, subst, arith}
use Rattle.std.proofs.Math.Path.{subst₂}
use Rattle.std.proofs.lemmas.List.{take_more}
use Rattle.std.specs.List.{All, AllByRecursion}
use Rattle.helix_options.specs.Parts.{IsPartOf}
use Rattle.helix_options.specs.Paths.{constraints_of}
use Rattle.helix_options.specs.Regions.{AreRegionsFor, AreFewRegionsFor}
use Rattle.helix_partition.specs.Groups.{IsGroup, IsPartition, groups_of}
use Rattle.helix_partition.specs.declared.partition.Partition.{Partition}
use Rattle.helix_profile.specs.Content.{Content}
use Rattle.helix_profile.specs.Good.{IsGood}
use Rattle.helix_profile.specs.Width.{product_of_widths, profile_width}
use Rattle.helix_profile.specs.declared.field.Field.{Field}
use Rattle.helix_relations.specs.NumberingLaws.{all_of}
use Rattle.helix_relations.specs.PieceLaws.{piece_is_row}
use Rattle.helix_relations.specs.Pieces.{IsRegionPiece}
use Rattle.helix_relations.specs.Region.{RegionContent, numbers_of}
use Rattle.helix_rows.specs.Parts.{AreRegionsOf, ArePartsOf, InWalk, Walk}
use Rattle.helix_rows.specs.declared.part.Part.{Part}
use Rattle.helix_values.specs.declared.cell.Cell.{Cell}
use Rattle.helix_walk.proofs.AllParts.{good_in_parts, all_over, all_have_rows}
use Rattle.helix_walk.proofs.Classes.{all_classes, some_classes}
use Rattle.helix_walk.proofs.SharedFields.{each_part, each_width}
use Rattle.helix_walk.proofs.Widest.{each_is_few}
use Rattle.helix_walk.proofs.WithNumbers.{one_more}
use Rattle.helix_walk.specs.Classes.{region_classes}
use Rattle.helix_walk.specs.Fields.{IsWalkOver}
use Rattle.helix_walk.specs.Inner.Numbers.{numbers_from}
use Rattle.helix_walk.specs.Parts.{ArePartsFor, IsPartFor}

-- a group of linked fields is a part
group_part : (profile : Content) (group : Partition) → IsGroup profile group → IsPartOf profile group
group_part profile group is = record {
  some_field = is.some_field;
  ascending_fields = is.ascending_fields;
  ascending_constraints = is.ascending_constraints;
  fields_in_range = is.fields_in_range;
  constraints_in_range = is.constraints_in_range;
  own_fields = is.own_fields;
}

pub groups_are_parts : (profile : Content) (groups : List Partition) → AllByRecursion (IsGroup profile) groups
    → AllByRecursion (IsPartOf profile) groups
groups_are_parts profile [] all = tt
groups_are_parts profile (group ∷ groups) all =
    (group_part profile group all.0, groups_are_parts profile groups all.1)

-- the parts after one group more
pub gathered : (profile : Content) (groups : List Partition) (i : ℕ) (group : Partition)
    (old new found : List RegionContent) (parts more : List Part) → i < length groups → group ≡ get_or groups i group
    → ArePartsFor profile old (take i groups) parts
    → AreRegionsFor profile group found → AreFewRegionsFor profile group found → new ≡ old ++ found
    → more ≡ parts
    ++ (record { fields = group.fields; regions = numbers_from (length old) (length found) }) ∷ []
    → ArePartsFor profile new (take (i + 1) groups) more
gathered profile groups i group old new found parts more within is are exact few new_is more_is =
    let part : Part = record { fields = group.fields; regions = numbers_from (length old) (length found) } in
    let next : take (i + 1) groups ≡ take i groups ++ group ∷ [] =
    take_more groups i group within ∙ ap (λ g. take i groups ++ g ∷ []) (sym is) in
    subst (λ gs. ArePartsFor profile new gs more) (sym next)
    (subst₂ (λ rs ps. ArePartsFor profile rs (take i groups ++ group ∷ []) ps) (sym new_is) (sym more_is)
    (one_more profile old found group part refl refl exact few (take i groups) parts are))

pub are_regions : (profile : Content) (regions : List RegionContent) (groups : List Partition) (parts : List Part)
    → ArePartsFor profile regions groups parts
    → AreRegionsOf (λ region. numbers_of region.fields) region_classes IsRegionPiece regions parts
are_regions profile regions groups parts are = record {
  over = all_over profile regions groups parts are;
  rows = all_have_rows profile regions IsRegionPiece piece_is_row groups parts are;
  classes = some_classes profile regions groups parts are;
}

-- the walk over the parts, at its start
abbrev pub begun : Content → List RegionContent → List Part → Walk RegionContent
begun profile regions parts = record {
  parts = parts;
  regions = regions;
  fields = length profile.fields;
  place = None;
}

module _ (profile : Content) (regions : List RegionContent) (parts : List Part) where
  module _ (groups : List Partition) (are : ArePartsFor profile regions groups parts) where
    pub walk_over : IsWalkOver profile.fields (begun profile regions parts)
    walk_over = record {
      count = refl;
      within = all_of (λ part. All (λ n. n < length regions) part.regions) parts
          (each_part profile regions (λ part. All (λ n. n < length regions) part.regions) groups parts are
          (λ group part is. is.within));
      classes = all_classes profile regions groups parts are;
    }

    pub good_rows : IsPartition profile groups → (row : List Cell)
        → InWalk IsRegionPiece (begun profile regions parts) row ↔ IsGood profile row
    good_rows partition row = good_in_parts profile regions IsRegionPiece piece_is_row groups parts partition are row

  pub no_wider : ArePartsFor profile regions (groups_of profile) parts
      → All (λ part. length part.regions ≤ profile_width profile) parts
  no_wider are = all_of (λ part. length part.regions ≤ profile_width profile) parts
      (each_width profile regions (profile_width profile) (groups_of profile) parts are (each_is_few profile))

-- what is opened with as many cells as there are fields
pub is_begun : (profile : Content) (regions : List RegionContent) (parts : List Part) (fields : List Field)
    (walk : Walk RegionContent) → fields ≡ profile.fields
    → walk ≡ record { parts = parts; regions = regions; fields = length fields; place = None }
    → walk ≡ begun profile regions parts
is_begun profile regions parts fields walk same is =
    is ∙ ap (λ fs. record { parts = parts; regions = regions; fields = length fs; place = None }) same

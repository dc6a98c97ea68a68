use Rattle.std.proofs.Common.{◌↔◌, ◌≤◌, ◌∙◌, List, length, subst, sym}
use Rattle.std.specs.List.{All, AllByRecursion}
use Rattle.helix_options.specs.Parts.{IsPartOf}
use Rattle.helix_profile.specs.Good.{IsGood}
use Rattle.helix_profile.specs.Width.{profile_width}
use Rattle.helix_relations.specs.Pieces.{IsRegionPiece}
use Rattle.helix_rows.specs.Parts.{ArePartsOf, InWalk}
use Rattle.helix_values.specs.declared.cell.Cell.{Cell}
use Rattle.helix_walk.proofs.Opened.{groups_are_parts, are_regions, is_begun, walk_over, good_rows, no_wider}
use Rattle.helix_walk.proofs.SharedFields.{are_parts}
use Rattle.helix_walk.specs.Fields.{IsWalkOver}
use Rattle.helix_walk.specs.Parts.{ArePartsFor}
use Rattle.helix_walk.proofs.walk.Walk.open.Goals as goal

pub gather-requires : goal.gather-requires
gather-requires c = subst (AllByRecursion (IsPartOf c.args.profile.now)) (sym c.as_slice.ensures)
    (groups_are_parts c.args.profile.now c.in_ok-groups.groups c.in_ok-groups.ensures.partition.each_group)

pub open-requires-clause-parts : goal.open-requires-clause-parts
open-requires-clause-parts c =
    subst (λ fields. ArePartsOf (length fields) c.in_ok-gathered.gathered.parts) (sym c.fields-count.ensures.value)
    (are_parts c.args.profile.now c.in_ok-gathered.gathered.regions.items c.in_ok-groups.groups
    c.in_ok-gathered.gathered.parts c.in_ok-groups.ensures.partition
    (subst (λ groups. ArePartsFor c.args.profile.now c.in_ok-gathered.gathered.regions.items groups
    c.in_ok-gathered.gathered.parts) c.as_slice.ensures c.in_ok-gathered.ensures))

pub open-requires-clause-regions : goal.open-requires-clause-regions
open-requires-clause-regions c =
    are_regions c.args.profile.now c.in_ok-gathered.gathered.regions.items c.as_slice.result.now
    c.in_ok-gathered.gathered.parts c.in_ok-gathered.ensures

pub returns-clause-fields : goal.returns-clause-fields
returns-clause-fields c = subst (IsWalkOver c.args.profile.now.fields)
    (sym (is_begun c.args.profile.now c.in_ok-gathered.gathered.regions.items c.in_ok-gathered.gathered.parts
    c.fields-count.result.now c.in_ok-open.field-0 c.fields-count.ensures.value c.in_ok-open.ensures))
    (walk_over c.args.profile.now c.in_ok-gathered.gathered.regions.items c.in_ok-gathered.gathered.parts
    c.as_slice.result.now c.in_ok-gathered.ensures)

pub returns-clause-rows : goal.returns-clause-rows
returns-clause-rows c =
    subst (λ walk. (row : List Cell) → InWalk IsRegionPiece walk row ↔ IsGood c.args.profile.now row)
    (sym (is_begun c.args.profile.now c.in_ok-gathered.gathered.regions.items c.in_ok-gathered.gathered.parts
    c.fields-count.result.now c.in_ok-open.field-0 c.fields-count.ensures.value c.in_ok-open.ensures))
    (good_rows c.args.profile.now c.in_ok-gathered.gathered.regions.items c.in_ok-gathered.gathered.parts
    c.in_ok-groups.groups
    (subst (λ groups. ArePartsFor c.args.profile.now c.in_ok-gathered.gathered.regions.items groups
    c.in_ok-gathered.gathered.parts) c.as_slice.ensures c.in_ok-gathered.ensures)
    c.in_ok-groups.ensures.partition)

pub returns-clause-width : goal.returns-clause-width
returns-clause-width c =
    subst (λ walk. All (λ part. length part.regions ≤ profile_width c.args.profile.now) walk.parts)
    (sym (is_begun c.args.profile.now c.in_ok-gathered.gathered.regions.items c.in_ok-gathered.gathered.parts
    c.fields-count.result.now c.in_ok-open.field-0 c.fields-count.ensures.value c.in_ok-open.ensures))
    (no_wider c.args.profile.now c.in_ok-gathered.gathered.regions.items c.in_ok-gathered.gathered.parts
    (subst (λ groups. ArePartsFor c.args.profile.now c.in_ok-gathered.gathered.regions.items groups
    c.in_ok-gathered.gathered.parts) (c.as_slice.ensures ∙ c.in_ok-groups.ensures.groups) c.in_ok-gathered.ensures))

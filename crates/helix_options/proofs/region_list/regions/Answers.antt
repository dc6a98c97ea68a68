use Rattle.std.proofs.Common.{subst, sym}
use Rattle.helix_options.proofs.Finding.{AreFoundOf, first_found, regions_for, few_regions}
use Rattle.helix_options.proofs.Taking.{none_taken_from, valid_taken, found_taken}
use Rattle.helix_options.proofs.region_list.regions.Goals as goal

pub loop-regions-init : goal.loop-regions-init
loop-regions-init c = subst (AreFoundOf c.args.profile.now c.args.part.now c.in_ok-paths.paths c.in_ok-paths.paths)
    (sym c.new-regions.ensures) (first_found c.args.profile.now c.args.part.now c.in_ok-paths.paths)

pub push_region-requires-clause-literals : goal.push_region-requires-clause-literals
push_region-requires-clause-literals c = valid_taken c.args.profile.now c.args.part.now c.in_ok-paths.paths
    c.loop-regions.paths c.next.new.self c.loop-regions.regions c.loop-regions.invariant c.in_ok-path.field-0
    c.in_ok-path.ensures c.in-Some.path c.in-Some.is c.as_slice-fields.result.now c.as_slice-fields.ensures
    c.as_slice.result.now c.as_slice.ensures c.in_ok-paths.ensures.fields

pub loop-regions-preserved : goal.loop-regions-preserved
loop-regions-preserved c = found_taken c.args.profile.now c.args.part.now c.in_ok-paths.paths
    c.loop-regions.paths c.next.new.self c.loop-regions.regions c.loop-regions.invariant c.in_ok-path.field-0
    c.in_ok-path.ensures c.in-Some.path c.in-Some.is c.as_slice-fields.result.now c.as_slice-fields.ensures
    c.as_slice.result.now c.as_slice.ensures c.in_ok-paths.ensures.exact c.push_region.new.regions
    c.in_ok-push_region.ensures

pub returns-clause-exact : goal.returns-clause-exact
returns-clause-exact c = regions_for c.args.profile.now c.args.part.now c.in_ok-paths.paths c.in_ok-paths.ensures.exact
    c.loop-regions.paths c.loop-regions.regions c.loop-regions.invariant
    (none_taken_from c.in_ok-path.field-0 c.loop-regions.paths c.next.new.self c.in_ok-path.ensures
    c.in_default.not-Some)

pub returns-clause-few : goal.returns-clause-few
returns-clause-few c = few_regions c.args.profile.now c.args.part.now c.in_ok-paths.paths c.in_ok-paths.ensures.exact
    c.loop-regions.paths c.loop-regions.regions c.loop-regions.invariant
    (none_taken_from c.in_ok-path.field-0 c.loop-regions.paths c.next.new.self c.in_ok-path.ensures
    c.in_default.not-Some) c.in_ok-paths.ensures.few

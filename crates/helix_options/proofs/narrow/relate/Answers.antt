use Rattle.helix_options.proofs.Narrowing.{left_there, right_after, joins_both}
use Rattle.helix_options.proofs.narrow.relate.Goals as goal

pub forbid_null-requires : goal.forbid_null-requires
forbid_null-requires c = left_there c.args.region.now c.args.relation c.requires

pub forbid_null-requires-2 : goal.forbid_null-requires-2
forbid_null-requires-2 c =
    right_after c.args.region.now c.forbid_null.new.self c.args.relation c.requires c.forbid_null.ensures

pub relate-requires-clause-ends : goal.relate-requires-clause-ends
relate-requires-clause-ends c = joins_both c.args.region.now c.forbid_null.new.self c.forbid_null-2.new.self
    c.args.relation c.requires c.forbid_null.ensures c.forbid_null-2.ensures

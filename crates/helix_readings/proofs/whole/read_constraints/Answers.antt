use Rattle.helix_readings.proofs.Lists.{whole_read}
use Rattle.helix_readings.proofs.whole.read_constraints.Goals as goal

pub returns : goal.returns
returns c = whole_read c.args.fields.now c.args.sets.now c.as_slice.result.now c.args.v.now c.in_ok-place.place
    c.constraints_in.result.now c.read_all.result c.as_slice.ensures c.in_ok-place.ensures c.constraints_in.ensures
    c.read_all.ensures

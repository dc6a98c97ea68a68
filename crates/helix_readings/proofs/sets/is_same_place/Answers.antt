use Rattle.helix_readings.proofs.Searching.{same_reversed}
use Rattle.helix_readings.proofs.sets.is_same_place.Goals as goal

pub returns : goal.returns
returns c = same_reversed c.steps_inside_out.result.now c.steps_inside_out-2.result.now c.args.place.now
    c.args.other.now c.are_same_steps.result c.steps_inside_out.ensures c.steps_inside_out-2.ensures
    c.are_same_steps.ensures

use Rattle.helix_readings.proofs.Searching.{found_members, no_set}
use Rattle.helix_readings.proofs.sets.members_at.Goals as goal

pub returns-then-is_same_place : goal.returns-then-is_same_place
returns-then-is_same_place c = found_members c.args.place.now c.args.sets.now c.loop-set.set-index c.set-item.result
    c.loop-set-test.true c.set-item.is c.loop-set.invariant c.is_same_place.result c.in_ok-copy.field-0
    c.is_same_place.ensures c.if-is_same_place.true c.in_ok-copy.ensures

pub returns : goal.returns
returns c = no_set c.args.place.now c.args.sets.now c.loop-set.set-index c.loop-set-test.false c.loop-set.invariant

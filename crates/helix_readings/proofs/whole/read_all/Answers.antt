use Rattle.helix_readings.proofs.Lists.{next_part, no_part}
use Rattle.helix_readings.proofs.whole.read_all.Goals as goal

pub returns-in-None : goal.returns-in-None
returns-in-None c = no_part c.args.fields.now c.args.sets.now c.args.place.now c.args.items.now c.loop-i.i
    c.index-items-i.result c.loop-i-test.true c.index-items-i.is c.in_ok-inner.inner c.in_ok-inner.ensures
    c.in_ok-constraint.field-0 c.in_ok-constraint.ensures c.in-None.is

pub loop-i-preserved : goal.loop-i-preserved
loop-i-preserved c = next_part c.args.fields.now c.args.sets.now c.args.place.now c.args.items.now c.loop-i.i
    c.index-items-i.result c.loop-i-test.true c.index-items-i.is c.in_ok-inner.inner c.in_ok-inner.ensures
    c.in_ok-constraint.field-0 c.in-Some.constraint c.loop-i.all c.push.new.self c.loop-i.invariant
    c.in_ok-constraint.ensures c.in-Some.is c.in_ok-push-in-Some.ensures.ok

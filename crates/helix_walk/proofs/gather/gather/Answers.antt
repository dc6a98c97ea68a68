use Rattle.helix_walk.proofs.Opened.{gathered}
use Rattle.helix_walk.proofs.gather.gather.Goals as goal

pub loop-group-preserved : goal.loop-group-preserved
loop-group-preserved c = gathered c.args.profile.now c.args.groups.now c.loop-group.group-index c.group-item.result
    c.loop-group.all.items c.push_part.new.regions.items c.in_ok-found.found c.loop-group.parts c.push_part.new.parts
    c.loop-group-test.true c.group-item.is c.loop-group.invariant c.in_ok-found.ensures.exact
    c.in_ok-found.ensures.few c.in_ok-push_part.ensures.regions c.in_ok-push_part.ensures.parts

use Rattle.helix_domains.proofs.Followings.{below_more_number}
use Rattle.helix_domains.proofs.others.numbers_below.Goals as goal

pub loop-number-preserved : goal.loop-number-preserved
loop-number-preserved c = below_more_number c.loop-number.number c.loop-number.all.items c.push.new.self.items
    c.in_ok-push.ensures.items c.loop-number.invariant

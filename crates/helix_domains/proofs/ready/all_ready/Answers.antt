use Rattle.std.proofs.Common.{◌+◌, take, sym, subst}
use Rattle.helix_domains.specs.Inner.Ready.{AreReady}
use Rattle.helix_domains.proofs.Readiness.{ready_more, ready_all}
use Rattle.helix_domains.proofs.ready.all_ready.Goals as goal

pub loop-index-preserved : goal.loop-index-preserved
loop-index-preserved c =
    subst (AreReady (take (c.loop-index.index + 1) c.args.atoms.now)) (sym c.in_ok-push.ensures.items)
    (ready_more c.args.atoms.now c.loop-index.all.items c.loop-index.index c.index-atoms-index.result
    c.in_ok-ready_for.field-0
    c.loop-index-test.true c.index-atoms-index.is c.in_ok-ready_for.ensures c.loop-index.invariant)

pub returns : goal.returns
returns c = ready_all c.args.atoms.now c.loop-index.all.items c.loop-index.index c.loop-index-test.false
    c.loop-index.invariant

use Rattle.std.proofs.lemmas.Bool.{OnTrue_at, OnTrue_from}
use Rattle.helix_domains.specs.Near.{IsNear}
use Rattle.helix_domains.proofs.tests.ask.goes_through.Goals as goal

pub next-found-requires : goal.next-found-requires
next-found-requires c = OnTrue_at c.if-not-found.false c.loop-i.invariant

pub loop-i-preserved : goal.loop-i-preserved
loop-i-preserved c = OnTrue_from c.next-found.result
    (IsNear c.args.domain.now c.next-found.new.near c.next-found.new.slot) (λ is. c.next-found.ensures.near)

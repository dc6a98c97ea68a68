use Rattle.std.proofs.Common.{refl, arith}
use Rattle.helix_automata.proofs.Covering.{short_in_order}
use Rattle.helix_automata.proofs.shape.are_in_order.Goals as goal

pub returns : goal.returns
returns c = (
  (λ _. c.loop-rest.invariant.0
      (short_in_order c.loop-rest.rest.now (λ h. omega (arith, c.in_default.len_below, h)))),
  (λ _. refl),
)

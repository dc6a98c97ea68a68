use Rattle.std.proofs.Common.{◌≡◌, length}
use Rattle.helix_base.specs.Ranges.{are_in_order}
use Rattle.helix_base.proofs.ranges.are_in_order.Given as goal

abbrev pub invariant-loop-rest : goal.invariant-loop-rest
invariant-loop-rest l = are_in_order l.rest ≡ are_in_order l.fn.ranges

abbrev pub decreases-loop-rest : goal.decreases-loop-rest
decreases-loop-rest l = length l.rest

use Rattle.std.proofs.Common.{◌≡◌, ◌+◌, ◌*◌, ◌≤◌, drop}
use Rattle.helix_base.specs.Weights.{weighted_sum}
use Rattle.helix_base.proofs.weights.weighted_sum.Given as goal

abbrev pub invariant-loop-i : goal.invariant-loop-i
invariant-loop-i l =
    (l.sum + weighted_sum (drop l.i l.weights) (drop l.i l.values) ≡ weighted_sum l.weights l.values)
    × (l.sum ≤ 998001 * l.i)

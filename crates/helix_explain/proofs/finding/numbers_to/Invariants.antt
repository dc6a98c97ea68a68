use Rattle.std.proofs.Common.{◌≡◌}
use Rattle.helix_explain.specs.Sets.{numbers_to}
use Rattle.helix_explain.proofs.finding.numbers_to.Given as goal

abbrev pub invariant-loop-below : goal.invariant-loop-below
invariant-loop-below l = l.numbers ≡ numbers_to l.below

use Rattle.std.proofs.Common.{ℕ, ◌<◌, take}
use Rattle.helix_expr.specs.Matching.{Matches}
use Rattle.helix_expr.proofs.containing.begins_somehow.Given as goal

abbrev pub invariant-loop-cut : goal.invariant-loop-cut
invariant-loop-cut l = (k : ℕ) → k < l.cut → ¬ Matches l.expr (take k l.word)

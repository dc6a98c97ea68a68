use Rattle.std.proofs.Common.{ℕ, ◌<◌, drop}
use Rattle.helix_expr.specs.Inner.Splitting.{BeginsMatch}
use Rattle.helix_expr.proofs.containing.contains_somewhere.Given as goal

abbrev pub invariant-loop-cut : goal.invariant-loop-cut
invariant-loop-cut l = (k : ℕ) → k < l.cut → ¬ BeginsMatch l.expr l.at_end (drop k l.word)

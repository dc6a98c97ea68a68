use Rattle.std.proofs.Common.{◌≢◌, ◌<◌, ◌^◌, ℕ, pos}
use Rattle.helix_operands.proofs.grids.level_of.Given as goal

abbrev pub invariant-loop-level : goal.invariant-loop-level
invariant-loop-level l = (k : ℕ) → k < l.level → l.units ≢ pos (10 ^ k)

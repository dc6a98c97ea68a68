use Rattle.std.proofs.Common.{ℕ, ◌<◌, ◌<ℤ◌}
use Rattle.helix_shift.specs.Inner.Days.{shifted_day}
use Rattle.helix_shift.proofs.first_day.first_after.Given as goal

abbrev pub invariant-loop-first : goal.invariant-loop-first
invariant-loop-first l = (earlier : ℕ) → earlier < l.first → shifted_day l.offset earlier <ℤ l.target

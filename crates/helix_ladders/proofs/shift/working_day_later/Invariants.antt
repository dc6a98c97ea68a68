use Rattle.std.proofs.Common.{◌≡◌, ◌+◌, ◌<◌, ◌≤◌}
use Rattle.helix_ladders.specs.Shift.{working_days_before}
use Rattle.helix_ladders.proofs.shift.working_day_later.Given as goal

abbrev pub invariant-loop-later : goal.invariant-loop-later
invariant-loop-later l = record {
  counted : working_days_before l.later ≡ working_days_before (l.day + 1) + l.passed;
  short : l.passed < l.count;
  small : l.passed ≤ l.later;
}

use Rattle.std.proofs.Common.{◌≡◌, ◌+◌, ◌<◌, ◌≤◌}
use Rattle.helix_ladders.specs.Shift.{working_days_before}
use Rattle.helix_ladders.proofs.shift.working_day_earlier.Given as goal

abbrev pub invariant-loop-earlier : goal.invariant-loop-earlier
invariant-loop-earlier l = record {
  counted : working_days_before l.earlier + l.passed ≡ working_days_before l.day;
  short : l.passed < l.count;
  small : l.passed + l.earlier ≤ l.day;
}

abbrev pub decreases-loop-earlier : goal.decreases-loop-earlier
decreases-loop-earlier l = l.earlier

use Rattle.std.proofs.Common.{◌<◌, ◌≤ℤ◌}
use Rattle.helix_ladders.specs.Calendar.{days_of_calendar}
use Rattle.helix_shift.specs.Inner.Days.{shifted_day}
use Rattle.helix_shift.proofs.first_day.first_up_to.Given as goal

abbrev pub invariant-loop-first : goal.invariant-loop-first
invariant-loop-first l = record {
  in_calendar : l.first < days_of_calendar;
  reached : l.target ≤ℤ shifted_day l.offset l.first;
}

abbrev pub decreases-loop-first : goal.decreases-loop-first
decreases-loop-first l = l.first

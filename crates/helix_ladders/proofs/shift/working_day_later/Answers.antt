use Rattle.std.proofs.Common.{◌≡◌, true, false, arith, sym}
use Rattle.helix_ladders.specs.Calendar.{days_of_calendar}
use Rattle.helix_ladders.specs.Shift.{is_working_day}
use Rattle.helix_ladders.proofs.WorkingDays.{counts, counts_not, working_days-le, found_later, none_later}
use Rattle.helix_ladders.proofs.shift.working_day_later.Goals as goal

pub loop-later-preserved-then-not-is_working_day : goal.loop-later-preserved-then-not-is_working_day
loop-later-preserved-then-not-is_working_day c =
    let free : is_working_day c.loop-later.later ≡ false = cc in
    record { counted = omega (arith, counts_not c.loop-later.later free); short = omega arith; small = omega arith }

pub returns-then-passed-count : goal.returns-then-passed-count
returns-then-passed-count c =
    let working : is_working_day c.loop-later.later ≡ true = cc in
    sym
    (found_later c.args.count c.args.day days_of_calendar c.loop-later.later (omega arith) (omega arith) working
    (omega (arith, counts c.loop-later.later working)))

pub loop-later-preserved : goal.loop-later-preserved
loop-later-preserved c =
    let working : is_working_day c.loop-later.later ≡ true = cc in
    record { counted = omega (arith, counts c.loop-later.later working); short = omega arith; small = omega arith }

pub returns : goal.returns
returns c =
    sym (none_later c.args.count c.args.day days_of_calendar (omega (
      arith,
      working_days-le days_of_calendar c.loop-later.later (omega arith),
    )))

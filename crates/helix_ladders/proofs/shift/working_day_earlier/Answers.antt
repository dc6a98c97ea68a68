use Rattle.std.proofs.Common.{◌≡◌, ◌-◌, true, false, arith, sym}
use Rattle.helix_ladders.specs.Calendar.{days_of_calendar}
use Rattle.helix_ladders.specs.Shift.{is_working_day}
use Rattle.helix_ladders.proofs.WorkingDays.{counts_back, counts_not_back, working_days-zero, working_days-le, found_earlier, none_earlier}
use Rattle.helix_ladders.proofs.shift.working_day_earlier.Goals as goal

pub loop-earlier-preserved-then-not-is_working_day : goal.loop-earlier-preserved-then-not-is_working_day
loop-earlier-preserved-then-not-is_working_day c =
    let free : is_working_day (c.loop-earlier.earlier - 1) ≡ false = cc in
    record {
      counted = omega (arith, counts_not_back c.loop-earlier.earlier (omega arith) free);
      short = omega arith;
      small = omega arith;
    }

pub returns-then-passed-count : goal.returns-then-passed-count
returns-then-passed-count c =
    let working : is_working_day (c.loop-earlier.earlier - 1) ≡ true = cc in
    sym
    (found_earlier c.args.count c.args.day days_of_calendar (c.loop-earlier.earlier - 1) (omega arith) (omega arith)
    working
    (omega (arith, counts_back c.loop-earlier.earlier (omega arith) working)))

pub loop-earlier-preserved : goal.loop-earlier-preserved
loop-earlier-preserved c =
    let working : is_working_day (c.loop-earlier.earlier - 1) ≡ true = cc in
    record {
      counted = omega (arith, counts_back c.loop-earlier.earlier (omega arith) working);
      short = omega arith;
      small = omega arith;
    }

pub returns : goal.returns
returns c =
    sym
    (none_earlier c.args.count c.args.day days_of_calendar
    (omega (arith, working_days-le c.loop-earlier.earlier 0 (omega arith), working_days-zero)))

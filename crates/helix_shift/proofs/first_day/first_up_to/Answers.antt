use Rattle.std.proofs.Common.{arith}
use Rattle.std.proofs.lemmas.Int.{ints}
use Rattle.helix_shift.proofs.FirstDays.{first_after_short}
use Rattle.helix_shift.proofs.first_day.first_up_to.Goals as goal

pub returns-else-shift_day-target : goal.returns-else-shift_day-target
returns-else-shift_day-target c =
    first_after_short c.args.offset c.args.target c.loop-first.first c.loop-first.invariant.in_calendar
    (omega (arith, ints, c.loop-first.invariant.reached)) (omega (arith, ints))

use Rattle.std.proofs.Common.{◌-◌, sym, subst, arith}
use Rattle.std.proofs.lemmas.Int.{ints}
use Rattle.helix_shift.specs.Inner.Days.{IsWorkingDayAt}
use Rattle.helix_shift.specs.WorkingDayLaws.{earlier_is, no_earlier}
use Rattle.helix_shift.proofs.working_days.working_days_earlier.Goals as goal

pub returns-then-before-count : goal.returns-then-before-count
returns-then-before-count c = sym (no_earlier c.args.count c.args.day (omega arith))

pub returns-else-before-count : goal.returns-else-before-count
returns-else-before-count c =
    let at = subst (λ before. IsWorkingDayAt (before - c.args.count) c.working_day.result)
    c.working_days_before-before.ensures.value c.working_day.ensures in
    rw (earlier_is c.args.count c.args.day c.working_day.result c.requires.from_1 c.requires.day (omega arith) at)
    (omega (arith, ints))

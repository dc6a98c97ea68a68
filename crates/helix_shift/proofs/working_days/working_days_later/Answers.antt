use Rattle.std.proofs.Common.{◌+◌, ◌-◌, subst, arith}
use Rattle.std.proofs.lemmas.Int.{ints}
use Rattle.helix_shift.specs.Inner.Days.{IsWorkingDayAt}
use Rattle.helix_shift.specs.WorkingDayLaws.{later_is}
use Rattle.helix_shift.proofs.working_days.working_days_later.Goals as goal

pub returns : goal.returns
returns c =
    let at = subst (λ before. IsWorkingDayAt (before + (c.args.count - 1)) c.working_day-later.result)
    c.working_days_before.ensures.value c.working_day-later.ensures in
    rw (later_is c.args.count c.args.day c.working_day-later.result c.requires.from_1 at) (omega (arith, ints))

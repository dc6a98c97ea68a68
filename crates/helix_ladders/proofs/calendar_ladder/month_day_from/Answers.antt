use Rattle.std.proofs.Common.{arith}
use Rattle.helix_ladders.proofs.MonthStarts.{no_month_after, next_month_least, no_next_month}
use Rattle.helix_ladders.proofs.calendar_ladder.month_day_from.Goals as goal

pub returns-then-day-ge-DAYS-clause-none : goal.returns-then-day-ge-DAYS-clause-none
returns-then-day-ge-DAYS-clause-none c = λ v. no_month_after c.args.day v c.if-day-ge-DAYS.true

pub returns-then-next-lt-DAYS-clause-some : goal.returns-then-next-lt-DAYS-clause-some
returns-then-next-lt-DAYS-clause-some c =
    next_month_least _ _ _ c.date_of-date.ensures.date c.args.day _ c.date_of-date.ensures.number c.if-date-eq1.false
    (omega arith) (omega arith)

pub returns-else-next-lt-DAYS-clause-none : goal.returns-else-next-lt-DAYS-clause-none
returns-else-next-lt-DAYS-clause-none c =
    λ v. no_next_month _ _ _ c.date_of-date.ensures.date c.args.day v c.date_of-date.ensures.number c.if-date-eq1.false
    (omega arith)

use Rattle.std.proofs.Common.{arith}
use Rattle.helix_ladders.proofs.YearStarts.{no_year_after, next_year_least, no_next_year, new_year_in_calendar, no_new_year}
use Rattle.helix_ladders.proofs.calendar_ladder.year_day_from.Goals as goal

pub returns-then-day-ge-DAYS-clause-none : goal.returns-then-day-ge-DAYS-clause-none
returns-then-day-ge-DAYS-clause-none c = λ v. no_year_after c.args.day v c.if-day-ge-DAYS.true

pub returns-then-date-eq9999-clause-none : goal.returns-then-date-eq9999-clause-none
returns-then-date-eq9999-clause-none c =
    λ v. no_next_year _ _ _ c.date_of-date.ensures.date c.args.day v c.date_of-date.ensures.number
    (no_new_year _ _ c.else-date-eq1.either) (omega arith)

pub returns-else-date-eq9999-clause-some : goal.returns-else-date-eq9999-clause-some
returns-else-date-eq9999-clause-some c =
    rw c.day_number.ensures (next_year_least _ _ _ c.date_of-date.ensures.date c.args.day c.date_of-date.ensures.number
    (no_new_year _ _ c.else-date-eq1.either) (omega arith))

pub returns-else-date-eq9999-clause-in_calendar : goal.returns-else-date-eq9999-clause-in_calendar
returns-else-date-eq9999-clause-in_calendar c =
    rw c.day_number.ensures (new_year_in_calendar _ _ _ c.date_of-date.ensures.date (omega arith))

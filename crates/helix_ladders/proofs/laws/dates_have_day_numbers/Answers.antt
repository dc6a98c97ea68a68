use Rattle.helix_ladders.proofs.CivilDates.{year_of-day_number, month_of-day_number, day_of_month-day_number, in_calendar}
use Rattle.helix_ladders.proofs.GregorianYears.{end_of_calendar}
use Rattle.helix_ladders.proofs.laws.dates_have_day_numbers.Goals as goal

pub returns-clause-year : goal.returns-clause-year
returns-clause-year c = year_of-day_number

pub returns-clause-month : goal.returns-clause-month
returns-clause-month c = month_of-day_number

pub returns-clause-day : goal.returns-clause-day
returns-clause-day c = day_of_month-day_number

pub returns-clause-within : goal.returns-clause-within
returns-clause-within c = in_calendar

pub returns-clause-end : goal.returns-clause-end
returns-clause-end c = end_of_calendar

use Rattle.helix_ladders.proofs.YearStarts.{year_start_greatest}
use Rattle.helix_ladders.proofs.calendar_ladder.year_day_to.Goals as goal

pub returns : goal.returns
returns c =
    rw c.day_number.ensures (year_start_greatest _ _ _ c.date_of.ensures.date c.args.day c.date_of.ensures.number)

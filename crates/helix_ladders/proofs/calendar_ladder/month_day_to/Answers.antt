use Rattle.std.proofs.Common.{refl}
use Rattle.helix_ladders.proofs.MonthStarts.{month_start_greatest}
use Rattle.helix_ladders.proofs.calendar_ladder.month_day_to.Goals as goal

pub returns : goal.returns
returns c = month_start_greatest _ _ _ c.date_of.ensures.date c.args.day _ c.date_of.ensures.number refl

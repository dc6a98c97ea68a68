use Rattle.std.proofs.Common.{arith}
use Rattle.helix_shift.specs.WorkingDayLaws.{working_day_at}
use Rattle.helix_shift.proofs.working_days.working_day.Goals as goal

pub returns : goal.returns
returns c = working_day_at c.args.count _ (omega arith)

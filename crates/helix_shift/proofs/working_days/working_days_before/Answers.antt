use Rattle.std.proofs.Common.{arith}
use Rattle.helix_shift.specs.WorkingDayLaws.{working_days_of_weeks}
use Rattle.helix_shift.proofs.working_days.working_days_before.Goals as goal

pub returns-clause-value : goal.returns-clause-value
returns-clause-value c = omega (arith, working_days_of_weeks c.args.day)

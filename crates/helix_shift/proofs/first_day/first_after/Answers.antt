use Rattle.std.proofs.Common.{arith}
use Rattle.std.proofs.lemmas.Int.{ints}
use Rattle.helix_shift.proofs.FirstDays.{none_up_to}
use Rattle.helix_shift.proofs.first_day.first_after.Goals as goal

pub loop-first-init : goal.loop-first-init
loop-first-init c =
    none_up_to c.args.offset _ c.args.day c.requires.day (omega (arith, ints, c.requires.short))

pub loop-first-preserved : goal.loop-first-preserved
loop-first-preserved c =
    none_up_to c.args.offset _ c.loop-first.first (omega arith) (omega (arith, ints))

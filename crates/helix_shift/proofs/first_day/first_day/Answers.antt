use Rattle.std.proofs.Common.{arith}
use Rattle.std.proofs.lemmas.Int.{ints}
use Rattle.helix_shift.proofs.FirstDays.{none_beyond}
use Rattle.helix_shift.proofs.first_day.first_day.Goals as goal

pub returns-then-target-clause-none : goal.returns-then-target-clause-none
returns-then-target-clause-none c =
    none_beyond c.args.offset c.args.target c.requires (omega (arith, ints))

use Rattle.std.proofs.Common.{take}
use Rattle.helix_readings.specs.Given.{AreGiven}
use Rattle.helix_readings.proofs.whole.read_all.Given as goal

abbrev pub invariant-loop-i : goal.invariant-loop-i
invariant-loop-i l = AreGiven l.fields l.sets l.place 0 (take l.i l.items) l.all

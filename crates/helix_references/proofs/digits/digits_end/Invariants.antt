use Rattle.std.proofs.Common.{take}
use Rattle.helix_base.specs.Digits.{AreDigits}
use Rattle.helix_references.proofs.digits.digits_end.Given as goal

abbrev pub invariant-loop-i : goal.invariant-loop-i
invariant-loop-i l = AreDigits (take l.i l.codes)

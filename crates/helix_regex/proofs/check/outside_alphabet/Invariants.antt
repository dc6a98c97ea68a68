use Rattle.std.proofs.Common.{take}
use Rattle.helix_regex.specs.Faults.{AreCharacters}
use Rattle.helix_regex.proofs.check.outside_alphabet.Given as goal

abbrev pub invariant-loop-i : goal.invariant-loop-i
invariant-loop-i l = AreCharacters (take l.i l.codes)

use Rattle.std.proofs.Common.{take}
use Rattle.helix_legacy.specs.Inner.Seen.{AreNamesOf}
use Rattle.helix_legacy.proofs.Naming.{NoneFaulty}
use Rattle.helix_legacy.proofs.names.names_fault.Given as goal

abbrev pub invariant-loop-i : goal.invariant-loop-i
invariant-loop-i l = NoneFaulty l.rules l.i × AreNamesOf l.seen.keys (take l.i l.rules)

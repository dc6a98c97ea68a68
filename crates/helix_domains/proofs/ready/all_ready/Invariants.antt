use Rattle.std.proofs.Common.{take}
use Rattle.helix_domains.specs.Inner.Ready.{AreReady}
use Rattle.helix_domains.proofs.ready.all_ready.Given as goal

abbrev pub invariant-loop-index : goal.invariant-loop-index
invariant-loop-index l = AreReady (take l.index l.atoms) l.all.items

use Rattle.std.proofs.Common.{take}
use Rattle.helix_domains.specs.Domain.{IsAllowed}
use Rattle.helix_domains.specs.Inner.Listed.{AreKept}
use Rattle.helix_domains.proofs.allowed.allowed_of.Given as goal

abbrev pub invariant-loop-cell : goal.invariant-loop-cell
invariant-loop-cell l = AreKept (IsAllowed l.kind l.atoms) (take l.cell-index l.cells) l.kept.items

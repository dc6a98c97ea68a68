use Rattle.std.proofs.Common.{IsSome}
use Rattle.helix_outside.proofs.tests.disks.pieces.Given as goal

abbrev pub invariant-loop-piece : goal.invariant-loop-piece
invariant-loop-piece g l = IsSome l.disk.input

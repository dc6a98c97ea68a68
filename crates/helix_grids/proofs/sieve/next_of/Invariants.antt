use Rattle.std.proofs.Common.{◌≡◌, length}
use Rattle.helix_grids.proofs.Sieves.{AreNextFrom}
use Rattle.helix_grids.proofs.sieve.next_of.Given as goal

abbrev pub invariant-loop-index : goal.invariant-loop-index
invariant-loop-index g l = record {
  same_length : length l.next.items ≡ length l.excluded;
  right : AreNextFrom (g.S.Scale.ladder l.scale) l.window l.excluded l.next.items l.index;
}

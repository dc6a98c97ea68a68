use Rattle.helix_schema.proofs.Wishes.{AreFilledTo}
use Rattle.helix_schema.proofs.wish.first_unfilled.Given as goal

abbrev pub invariant-loop-i : goal.invariant-loop-i
invariant-loop-i l = AreFilledTo l.wishes l.i

use Rattle.helix_token.proofs.Faulty.{HasRead}
use Rattle.helix_token.proofs.cells.row_of.Given as goal

abbrev pub invariant-loop-i : goal.invariant-loop-i
invariant-loop-i l = HasRead l.fields l.strings l.row l.i

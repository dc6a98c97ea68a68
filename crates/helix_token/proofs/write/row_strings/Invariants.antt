use Rattle.std.proofs.Common.{◌≡◌, take}
use Rattle.helix_token.specs.Token.{cell_strings}
use Rattle.helix_token.proofs.write.row_strings.Given as goal

abbrev pub invariant-loop-i : goal.invariant-loop-i
invariant-loop-i l = l.strings ≡ take l.i (cell_strings l.fields l.row)

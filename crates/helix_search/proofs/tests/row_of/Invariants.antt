use Rattle.std.proofs.Common.{◌≡◌, length}
use Rattle.helix_search.proofs.tests.row_of.Given as goal

abbrev pub invariant-loop-i : goal.invariant-loop-i
invariant-loop-i l = length l.row ≡ length l.numbers

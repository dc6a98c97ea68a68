use Rattle.std.proofs.Common.{◌≡◌, take}
use Rattle.helix_words.proofs.column.are_equal.Given as goal

abbrev pub invariant-loop-state : goal.invariant-loop-state
invariant-loop-state l = take l.state l.one ≡ take l.state l.other

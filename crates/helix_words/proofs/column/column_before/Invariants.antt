use Rattle.std.proofs.Common.{◌≡◌, take, map}
use Rattle.helix_words.specs.Inner.Columns.{leads_to}
use Rattle.helix_words.proofs.column.column_before.Given as goal

abbrev pub invariant-loop-state : goal.invariant-loop-state
invariant-loop-state l = l.column ≡ map (leads_to l.flags) (take l.state l.dfa.moves)

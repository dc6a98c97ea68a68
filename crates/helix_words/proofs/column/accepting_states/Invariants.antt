use Rattle.std.proofs.Common.{◌≡◌, take}
use Rattle.helix_words.proofs.column.accepting_states.Given as goal

abbrev pub invariant-loop-state : goal.invariant-loop-state
invariant-loop-state l = l.column ≡ take l.state l.dfa.accepting

use Rattle.helix_compile.proofs.Closures.{Closing}
use Rattle.helix_compile.proofs.closure.epsilon_closure.Given as goal

abbrev pub invariant-loop-done : goal.invariant-loop-done
invariant-loop-done l = Closing l.nfa l.fn.seen l.seen l.found.items l.done

use Rattle.helix_domains.proofs.Dead.{AreDeadBelow}
use Rattle.helix_domains.proofs.patterns.accepts_none.Given as goal

abbrev pub invariant-loop-state : goal.invariant-loop-state
invariant-loop-state l = AreDeadBelow l.dfa l.state

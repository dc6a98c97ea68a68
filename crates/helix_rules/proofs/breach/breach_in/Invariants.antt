use Rattle.helix_rules.proofs.Breaching.{NoneBroken}
use Rattle.helix_rules.proofs.breach.breach_in.Given as goal

abbrev pub invariant-loop-rule : goal.invariant-loop-rule
invariant-loop-rule l = NoneBroken l.fields l.rules l.v l.rule-index

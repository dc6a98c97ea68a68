use Rattle.std.proofs.Common.{◌↔◌, drop}
use Rattle.helix_profile.specs.Satisfaction.{AllSatisfied, AnySatisfied}
use Rattle.helix_profile.proofs.satisfaction.+satisfies.Given as goal

abbrev pub invariant-all_satisfied-loop-constraint : goal.invariant-all_satisfied-loop-constraint
invariant-all_satisfied-loop-constraint l = AllSatisfied (drop l.constraint-index l.constraints) l.row l.sign
    ↔ AllSatisfied l.constraints l.row l.sign

abbrev pub invariant-any_satisfied-loop-constraint : goal.invariant-any_satisfied-loop-constraint
invariant-any_satisfied-loop-constraint l = AnySatisfied (drop l.constraint-index l.constraints) l.row l.sign
    ↔ AnySatisfied l.constraints l.row l.sign

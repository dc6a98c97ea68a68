use Rattle.helix_options.specs.Inner.Search.{both, found_by, found_by_all, Keeps}
use Rattle.helix_options.proofs.descend.descend.Given as goal

abbrev pub invariant-loop-demand : goal.invariant-loop-demand
invariant-loop-demand l = Keeps (found_by l.nullable l.initial.branch)
    (both (found_by l.nullable l.branch) (found_by_all l.nullable l.others.items))

abbrev pub decreases-loop-demand : goal.decreases-loop-demand
decreases-loop-demand l = (both (found_by l.nullable l.branch) (found_by_all l.nullable l.others.items)).steps

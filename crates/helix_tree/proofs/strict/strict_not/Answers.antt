use Rattle.std.proofs.Common.{sym, subst, ◌↔◌}
use Rattle.helix_tree.specs.Tree.{TreeHolds}
use Rattle.helix_tree.specs.TreeLaws.{strict_complement}
use Rattle.helix_tree.proofs.SignedTrees.{if_ok}
use Rattle.helix_tree.proofs.strict.strict_not.Goals as goal

pub returns-clause-complement : goal.returns-clause-complement
returns-clause-complement c = if_ok _ _ c.negated.result
    (λ negation is row. subst (λ t. TreeHolds t row ↔ ¬ TreeHolds c.args.tree.now row) (sym is)
    (strict_complement c.args.tree.now row))
    c.negated.ensures

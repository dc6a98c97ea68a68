use Rattle.std.proofs.Common.{true, sym, subst, ◌↔◌}
use Rattle.helix_profile.specs.Satisfaction.{Satisfies}
use Rattle.helix_tree.specs.Tree.{TreeHolds}
use Rattle.helix_tree.specs.TreeLaws.{tree_means}
use Rattle.helix_tree.proofs.SignedTrees.{if_ok}
use Rattle.helix_tree.proofs.signed.tree_of.Goals as goal

pub returns-clause-holds : goal.returns-clause-holds
returns-clause-holds c = if_ok _ _ c.tree_with.result
    (λ tree is row. subst (λ t. TreeHolds t row ↔ Satisfies c.args.constraint.now row true) (sym is)
    (tree_means c.args.constraint.now row true))
    c.tree_with.ensures

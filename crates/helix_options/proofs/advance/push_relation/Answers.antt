use Rattle.std.proofs.Common.{true, subst, sym}
use Rattle.helix_options.proofs.Stepping.{relation_split}
use Rattle.helix_options.specs.Inner.Search.{GoesOn, both, with_open, search_all, one_path, found_by_all, with_branch}
use Rattle.helix_tree.specs.declared.literal.Literal.TheVariants.{Joined}
use Rattle.helix_options.proofs.advance.push_relation.Goals as goal

pub returns : goal.returns
returns c = λ nullable.
    subst (λ strict. GoesOn (both (with_open nullable (Joined c.args.relation c.args.sign strict)
    c.args.branch.now.literals (search_all nullable c.args.branch.now.demands one_path))
    (found_by_all nullable c.args.others.now.items))
    (with_branch nullable true c.split_relation.new.branch c.split_relation.new.others.items)) (sym c.if-strict.false)
    (relation_split nullable c.args.branch.now c.args.others.now.items c.args.relation c.args.sign
    c.split_relation.new.branch c.split_relation.new.others.items c.in_ok-split_relation.ensures.branch
    c.in_ok-split_relation.ensures.others)

use Rattle.std.proofs.Common.{true, false, refl, sym, ◌∙◌}
use Rattle.helix_options.proofs.Searching.{search-All-plus, search-All-minus, search-Any-plus, search-Any-minus}
use Rattle.helix_options.proofs.Demanding.{each_goes_on, if_ok}
use Rattle.helix_options.proofs.Stepping.{one_goes_on}
use Rattle.helix_options.specs.Inner.Search.{search, search_all, one_path, with_branch}
use Rattle.helix_options.proofs.advance.advance.Goals as goal

pub returns-in_ok-push_each-in-All : goal.returns-in_ok-push_each-in-All
returns-in_ok-push_each-in-All c = each_goes_on c.args.nullable.now c.args.demand.tree c.args.demand.sign c.in-All.parts
    true c.args.branch.now
    (record { literals = c.args.branch.now.literals; demands = c.push_each.new.demands }) c.args.others.now.items
    (λ literals rest. search-All-plus c.args.nullable.now c.in-All.parts literals rest
    ∙ (λ i. search c.args.nullable.now (sym c.in-All.is i) (sym c.if-sign.true i) literals rest))
    refl c.in_ok-push_each-in-All.ensures

pub returns-else-sign : goal.returns-else-sign
returns-else-sign c = if_ok _ _ c.choose.result
    (λ alive goes. one_goes_on c.args.nullable.now c.args.branch.now c.args.others.now.items c.args.demand
    c.in-All.parts
    false (with_branch c.args.nullable.now alive c.choose.new.branch c.choose.new.others.items)
    (search-All-minus c.args.nullable.now c.in-All.parts c.args.branch.now.literals
    (search_all c.args.nullable.now c.args.branch.now.demands one_path)
    ∙ (λ i. search c.args.nullable.now (sym c.in-All.is i) (sym c.if-sign.false i) c.args.branch.now.literals
    (search_all c.args.nullable.now c.args.branch.now.demands one_path))) goes)
    c.choose.ensures

pub returns-then-sign-2 : goal.returns-then-sign-2
returns-then-sign-2 c = if_ok _ _ c.choose-then-sign-2.result
    (λ alive goes. one_goes_on c.args.nullable.now c.args.branch.now c.args.others.now.items c.args.demand
    c.in-Any.parts
    true (with_branch c.args.nullable.now alive c.choose-then-sign-2.new.branch
    c.choose-then-sign-2.new.others.items)
    (search-Any-plus c.args.nullable.now c.in-Any.parts c.args.branch.now.literals
    (search_all c.args.nullable.now c.args.branch.now.demands one_path)
    ∙ (λ i. search c.args.nullable.now (sym c.in-Any.is i) (sym c.if-sign-2.true i) c.args.branch.now.literals
    (search_all c.args.nullable.now c.args.branch.now.demands one_path))) goes)
    c.choose-then-sign-2.ensures

pub returns-in_ok-push_each-in-Any : goal.returns-in_ok-push_each-in-Any
returns-in_ok-push_each-in-Any c = each_goes_on c.args.nullable.now c.args.demand.tree c.args.demand.sign c.in-Any.parts
    false c.args.branch.now
    (record { literals = c.args.branch.now.literals; demands = c.push_each-else-sign-2.new.demands })
    c.args.others.now.items
    (λ literals rest. search-Any-minus c.args.nullable.now c.in-Any.parts literals rest
    ∙ (λ i. search c.args.nullable.now (sym c.in-Any.is i) (sym c.if-sign-2.false i) literals rest))
    refl c.in_ok-push_each-in-Any.ensures

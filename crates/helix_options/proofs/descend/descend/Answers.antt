use Rattle.std.proofs.Common.{refl}
use Rattle.helix_options.proofs.Descending.{came_to_an_end, took_a_step, went_on}
use Rattle.helix_options.specs.Inner.Search.{found_by}
use Rattle.helix_options.proofs.descend.descend.Goals as goal

pub returns-then-not-branch : goal.returns-then-not-branch
returns-then-not-branch c = came_to_an_end c.args.nullable.now (found_by c.args.nullable.now c.args.branch)
    c.loop-demand.branch (record { literals = c.loop-demand.branch.literals; demands = c.pop.new.self })
    c.advance.new.branch c.in-Some.demand c.loop-demand.others.items c.advance.new.others.items c.in_ok-advance.field-0
    c.loop-demand.invariant refl c.in-Some.ensures c.if-not-branch.true c.in_ok-advance.ensures

pub loop-demand-smaller : goal.loop-demand-smaller
loop-demand-smaller c = took_a_step c.args.nullable.now
    c.loop-demand.branch (record { literals = c.loop-demand.branch.literals; demands = c.pop.new.self })
    c.advance.new.branch c.in-Some.demand c.loop-demand.others.items c.advance.new.others.items c.in_ok-advance.field-0
    refl c.in-Some.ensures c.if-not-branch.false c.in_ok-advance.ensures

pub loop-demand-preserved : goal.loop-demand-preserved
loop-demand-preserved c = went_on c.args.nullable.now (found_by c.args.nullable.now c.args.branch)
    c.loop-demand.branch (record { literals = c.loop-demand.branch.literals; demands = c.pop.new.self })
    c.advance.new.branch c.in-Some.demand c.loop-demand.others.items c.advance.new.others.items c.in_ok-advance.field-0
    c.loop-demand.invariant refl c.in-Some.ensures c.if-not-branch.false c.in_ok-advance.ensures

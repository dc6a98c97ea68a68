use Rattle.std.proofs.Common.{sym}
use Rattle.helix_automata.proofs.FewArcs.{few_start, few_more, few_all}
use Rattle.helix_automata.proofs.StateArcs.{walk_start, walk_more, walked_all, none_within}
use Rattle.helix_automata.proofs.exploration.arcs_of_state.Goals as goal

pub loop-first-init : goal.loop-first-init
loop-first-init g c = record {
  walked = walk_start (g.M.Machine.IsState c.args.machine.now) (g.M.Machine.Words c.args.machine.now) c.args.number
      c.args.states.now c.new-row.result
      c.new-row.ensures.arcs c.new-row.ensures.next c.requires.number c.requires.states;
  few = few_start (g.M.Machine.IsEnd c.args.machine.now) c.args.number c.args.states.now c.new-row.result
      c.new-row.ensures.arcs c.new-row.ensures.next;
}

pub unreachable-requires : goal.unreachable-requires
unreachable-requires g c =
    none_within c.loop-first.states c.args.number c.loop-first.invariant.walked.within (sym c.in_default-get.ensures)

pub step-requires-clause-state : goal.step-requires-clause-state
step-requires-clause-state g c =
    c.loop-first.invariant.walked.are c.args.number c.in-Some-get.state.now (sym c.in-Some-get.ensures)

pub loop-first-preserved : goal.loop-first-preserved
loop-first-preserved g c = let numbered = c.in_ok-to.ensures.number in record {
  walked = walk_more (g.M.Machine.IsState c.args.machine.now) (g.M.Machine.Words c.args.machine.now) c.args.number
      c.args.states.now c.loop-first.states c.number.new.self
      c.loop-first.row c.lead.new.self c.in-Some.first c.in_ok-next.last c.in_ok-to.to c.in-Some-get.state.now
      c.in_ok-next.next numbered.0
      c.loop-first.invariant.walked (sym c.in-Some.ensures) (sym c.in-Some-get.ensures) c.in_ok-next.ensures.leads
      numbered.1
      (g.met.M.Machine.same_words c.args.machine.now c.in_ok-next.next numbered.0 numbered.2) c.in_ok-to.ensures.added
      c.in_ok-lead.ensures.ok;
  few = few_more (g.M.Machine.IsEnd c.args.machine.now) c.args.number c.args.states.now c.loop-first.states
      c.loop-first.row c.lead.new.self
      (record { first = c.in-Some.first; last = c.in_ok-next.last; to = c.in_ok-to.to })
      c.in-Some-get.state.now c.loop-first.invariant.walked.bound c.loop-first.invariant.few
      c.loop-first.invariant.walked.next c.loop-first.invariant.walked.keeps
      (sym c.in-Some-get.ensures) (sym c.in-Some.ensures) c.in_ok-next.ensures.leads.reached c.in_ok-next.ensures.ends
      c.in_ok-lead.ensures.ok;
}

pub returns-clause-arcs : goal.returns-clause-arcs
returns-clause-arcs g c =
    walked_all (g.M.Machine.IsState c.args.machine.now) (g.M.Machine.Words c.args.machine.now) c.args.number
    c.args.states.now c.loop-first.states c.loop-first.row
    c.into_arcs.result c.loop-first.invariant.walked (sym c.in_default.ensures) c.into_arcs.ensures.value
    c.into_arcs.ensures.shape

pub returns-clause-few : goal.returns-clause-few
returns-clause-few g c =
    few_all (g.M.Machine.IsEnd c.args.machine.now) c.args.number c.args.states.now c.loop-first.row
    c.into_arcs.result c.loop-first.invariant.few (sym c.in_default.ensures) c.into_arcs.ensures.value

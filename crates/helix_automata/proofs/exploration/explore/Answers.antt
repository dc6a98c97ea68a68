use Rattle.std.proofs.Common.{◌↔◌, ◌≤◌, All, length, arith, sym, subst}
use Rattle.std.proofs.lemmas.Option.{slice_get_within}
use Rattle.helix_automata.specs.Automaton.{Accepts}
use Rattle.helix_automata.proofs.Explored.{made_well, made_accepts, none_after}
use Rattle.helix_automata.proofs.FewArcs.{each_more}
use Rattle.helix_automata.proofs.OneMoreState.{made_more}
use Rattle.helix_automata.proofs.exploration.explore.Goals as goal

pub of-requires : goal.of-requires
of-requires g c =
    made_well (g.M.Machine.IsState c.args.machine.now) (g.M.Machine.Words c.args.machine.now) c.args.start
    c.loop-done.states c.loop-done.moves c.loop-done.flags c.loop-done.done
    c.loop-done.invariant.made
    (none_after c.loop-done.states c.loop-done.invariant.made.first c.loop-done.done (sym c.in_default.ensures))
    (omega (arith, c.loop-done-test.true))

pub returns-in_default-clause-words : goal.returns-in_default-clause-words
returns-in_default-clause-words g c word characters =
    subst (λ dfa. Accepts dfa word ↔ g.M.Machine.Words c.args.machine.now c.args.start word) (sym c.of.ensures)
    (made_accepts (g.M.Machine.IsState c.args.machine.now) (g.M.Machine.Words c.args.machine.now) c.args.start
    c.loop-done.states c.loop-done.moves c.loop-done.flags c.loop-done.done
    c.loop-done.invariant.made
    (none_after c.loop-done.states c.loop-done.invariant.made.first c.loop-done.done (sym c.in_default.ensures)) word
    characters)

pub arcs_of_state-requires-clause-number : goal.arcs_of_state-requires-clause-number
arcs_of_state-requires-clause-number g c =
    slice_get_within c.loop-done.states c.loop-done.done c.in-Some.state.now (sym c.in-Some.ensures)

pub loop-done-preserved : goal.loop-done-preserved
loop-done-preserved g c = record {
  made = made_more (g.M.Machine.IsState c.args.machine.now) (g.M.Machine.Words c.args.machine.now) c.args.start
      c.loop-done.states c.arcs_of_state.new.states
      c.loop-done.moves c.push-in-loop-done.new.self c.loop-done.flags c.push.new.self c.loop-done.done
      c.in-Some.state.now c.in_ok-arcs_of_state.field-0 c.accepts.result
      c.loop-done.invariant.made (sym c.in-Some.ensures) c.in_ok-arcs_of_state.ensures.keeps
      c.in_ok-arcs_of_state.ensures.states c.in_ok-arcs_of_state.ensures.arcs
      c.in_ok-push-2.ensures.ok c.accepts.ensures c.in_ok-push.ensures.ok;
  few = each_more (g.M.Machine.IsState c.args.machine.now) (g.M.Machine.IsEnd c.args.machine.now)
      c.loop-done.states c.loop-done.done c.in-Some.state.now c.loop-done.moves c.push-in-loop-done.new.self
      c.in_ok-arcs_of_state.field-0 c.loop-done.invariant.few c.loop-done.invariant.made.are (sym c.in-Some.ensures)
      c.in_ok-arcs_of_state.ensures.few c.in_ok-push-2.ensures.ok;
}

pub returns-in_default-clause-arcs : goal.returns-in_default-clause-arcs
returns-in_default-clause-arcs g c most bound = subst (λ dfa. All (λ arcs. length arcs ≤ most) dfa.moves)
    (sym c.of.ensures) (c.loop-done.invariant.few most bound)

use Rattle.std.proofs.Common.{◌∙◌, length, slice_index, sym, ap, subst}
use Rattle.helix_automata.specs.Automaton.{most_arcs}
use Rattle.helix_words.specs.MovesLaws.{moved_none}
use Rattle.helix_words.proofs.MoveBounds.{moved_round}
use Rattle.helix_words.proofs.AlongTrails.{TrailBegun, trail_none, trail_more, trail_all}
use Rattle.helix_words.proofs.fill.extend.Goals as goal

pub loop-done-init : goal.loop-done-init
loop-done-init g c = record {
  begun = trail_none c.args.words.now.automaton c.args.count c.args.trail.now c.requires.state c.requires.along
      c.requires.rest c.state-state.result
      (c.state-state.ensures ∙ ap (λ l. slice_index c.args.trail.now.states (length l)) c.word.ensures);
  moved = moved_none g.L.Ledger.IsNoted _ c.args.steps.now;
}

pub loop-done-preserved : goal.loop-done-preserved
loop-done-preserved g c = record {
  begun = subst (TrailBegun c.args.words.now.automaton c.args.count _ c.first_step-step.result.to c.args.trail.now)
      (sym c.push.ensures)
      (trail_more c.args.words.now.automaton c.args.count c.args.trail.now c.loop-done.done c.loop-done.state
      c.loop-done.trail c.loop-done.invariant.begun c.first_step-step.result c.loop-done-test.true
      c.first_step-step.ensures.step c.first_step-step.ensures.within);
  moved = moved_round g.L.Ledger.IsNoted c.loop-done.done (most_arcs c.args.words.now.automaton) c.args.steps.now
      c.loop-done.steps c.first_step-step.new.steps c.loop-done.invariant.moved c.first_step-step.ensures.moves;
}

pub returns-clause-extends : goal.returns-clause-extends
returns-clause-extends g c =
    trail_all c.args.words.now.automaton c.args.count c.args.trail.now c.loop-done.done c.loop-done.state
    c.loop-done.trail c.loop-done.invariant.begun c.loop-done-test.false

use Rattle.std.proofs.Common.{sym, subst}
use Rattle.helix_automata.specs.Automaton.{most_arcs}
use Rattle.helix_words.specs.MovesLaws.{moved_none}
use Rattle.helix_words.proofs.MoveBounds.{moved_round}
use Rattle.helix_words.proofs.Fillings.{SlotBegun, slot_none, slot_more, slot_all}
use Rattle.helix_words.proofs.fill.fill.Goals as goal

pub loop-done-init : goal.loop-done-init
loop-done-init g c = record {
  begun = slot_none c.args.words.now.automaton c.args.state c.args.count c.args.out.now c.requires.state
      c.requires.rest;
  moved = moved_none g.L.Ledger.IsNoted _ c.args.steps.now;
}

pub loop-done-preserved : goal.loop-done-preserved
loop-done-preserved g c = record {
  begun = subst (SlotBegun c.args.words.now.automaton c.args.state c.args.count _ c.first_step-step.result.to
      c.args.out.now)
      (sym c.push.ensures)
      (slot_more c.args.words.now.automaton c.args.state c.args.count c.args.out.now c.loop-done.done c.loop-done.state
      c.loop-done.out c.loop-done.invariant.begun c.first_step-step.result c.loop-done-test.true
      c.first_step-step.ensures.step c.first_step-step.ensures.within);
  moved = moved_round g.L.Ledger.IsNoted c.loop-done.done (most_arcs c.args.words.now.automaton) c.args.steps.now
      c.loop-done.steps c.first_step-step.new.steps c.loop-done.invariant.moved c.first_step-step.ensures.moves;
}

pub returns-clause-adds : goal.returns-clause-adds
returns-clause-adds g c =
    slot_all c.args.words.now.automaton c.args.state c.args.count c.args.out.now c.loop-done.done c.loop-done.state
    c.loop-done.out c.loop-done.invariant.begun c.loop-done-test.false

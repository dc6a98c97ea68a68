use Rattle.std.proofs.Common.{◌+◌, ◌-◌, length, get_or, refl, ap, subst, arith}
use Rattle.helix_automata.specs.Automaton.{most_arcs}
use Rattle.helix_words.specs.Inner.Tables.{AreTables}
use Rattle.helix_words.specs.MovesLaws.{moved_none}
use Rattle.helix_words.proofs.MoveBounds.{moved_round, moved_fewer}
use Rattle.helix_words.proofs.AlongTrails.{along_within}
use Rattle.helix_words.proofs.GoingBack.{back_none, back_all, back_more, back_step}
use Rattle.helix_words.proofs.trails.deepest_branch.Goals as goal

pub loop-back-init : goal.loop-back-init
loop-back-init g c = record {
  apart = back_none c.args.words.now.automaton c.args.trail.now.word c.args.trail.now.states c.requires.along
      (length c.word-count.result.now) 0 (ap length c.word-count.ensures) refl;
  moved = moved_none g.L.Ledger.IsNoted _ c.args.steps.now;
}

pub step_above-requires-clause-state : goal.step_above-requires-clause-state
step_above-requires-clause-state g c =
    let are = subst (λ w. AreTables w c.words.inside.rows c.words.inside.table c.words.inside.lengths) c.words.view_is
    c.words.invariant in
    let within = along_within c.args.words.now.automaton c.args.trail.now.word c.args.trail.now.states c.requires.along
    are.well_formed (length c.word-count.result.now - c.loop-back.back - 1)
    (omega (arith, ap length c.word-count.ensures)) in
    omega (arith, within, c.state.ensures)

pub overflow_cast-back : goal.overflow_cast-back
overflow_cast-back g c =
    let are = subst (λ w. AreTables w c.words.inside.rows c.words.inside.table c.words.inside.lengths) c.words.view_is
    c.words.invariant in
    record { fits = omega (arith, c.loop-back-test.true, ap length c.word-count.ensures, c.requires.count, are.short) }

pub overflow_cast-result : goal.overflow_cast-result
overflow_cast-result g c =
    let are = subst (λ w. AreTables w c.words.inside.rows c.words.inside.table c.words.inside.lengths) c.words.view_is
    c.words.invariant in
    record { fits = omega (arith, c.loop-back-test.true, ap length c.word-count.ensures, c.requires.count, are.short) }

pub returns-in-Some-clause-branch : goal.returns-in-Some-clause-branch
returns-in-Some-clause-branch g c =
    back_step c.args.words.now.automaton c.args.trail.now.word c.args.trail.now.states c.requires.along
    (length c.word-count.result.now) c.loop-back.back (ap length c.word-count.ensures) c.loop-back-test.true
    c.state.result _ c.state.ensures
    (ap (λ l. get_or l (length c.word-count.result.now - c.loop-back.back - 1) 0) c.word.ensures)
    c.loop-back.invariant.apart
    c.requires.characters c.in-Some.step c.in-Some.ensures.step

pub returns-in-Some-clause-moves : goal.returns-in-Some-clause-moves
returns-in-Some-clause-moves g c =
    moved_fewer g.L.Ledger.IsNoted (c.loop-back.back + 1) (length c.args.trail.now.word)
    (most_arcs c.args.words.now.automaton) c.args.steps.now c.step_above.new.steps
    (omega (arith, c.loop-back-test.true, ap length c.word-count.ensures))
    (moved_round g.L.Ledger.IsNoted c.loop-back.back (most_arcs c.args.words.now.automaton) c.args.steps.now
    c.loop-back.steps c.step_above.new.steps c.loop-back.invariant.moved c.step_above.ensures.moves)

pub loop-back-preserved : goal.loop-back-preserved
loop-back-preserved g c = record {
  apart = back_more c.args.words.now.automaton c.args.trail.now.word c.args.trail.now.states c.requires.along
      (length c.word-count.result.now) c.loop-back.back (ap length c.word-count.ensures) c.loop-back-test.true
      c.state.result _ c.state.ensures
      (ap (λ l. get_or l (length c.word-count.result.now - c.loop-back.back - 1) 0) c.word.ensures)
      c.loop-back.invariant.apart c.in_default.ensures.step;
  moved = moved_round g.L.Ledger.IsNoted c.loop-back.back (most_arcs c.args.words.now.automaton) c.args.steps.now
      c.loop-back.steps c.step_above.new.steps c.loop-back.invariant.moved c.step_above.ensures.moves;
}

pub returns-clause-branch : goal.returns-clause-branch
returns-clause-branch g c =
    back_all c.args.words.now.automaton c.args.trail.now.word c.args.trail.now.states c.requires.along
    (length c.word-count.result.now) c.loop-back.back (ap length c.word-count.ensures) c.loop-back-test.false
    c.loop-back.invariant.apart

pub returns-clause-moves : goal.returns-clause-moves
returns-clause-moves g c =
    moved_fewer g.L.Ledger.IsNoted c.loop-back.back (length c.args.trail.now.word)
    (most_arcs c.args.words.now.automaton)
    c.args.steps.now c.loop-back.steps (omega (arith, ap length c.word-count.ensures, c.loop-back.auto.back-end))
    c.loop-back.invariant.moved

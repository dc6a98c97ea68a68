use Rattle.std.proofs.Common.{◌+◌, ◌∙◌, length, sym, arith}
use Rattle.std.proofs.lemmas.Bool.{false≢true}
use Rattle.helix_words.specs.MovesLaws.{moved_more, moved_wider}
use Rattle.helix_words.proofs.StepAnswers.{arc_found, arc_dead, arc_empty, arcs_none}
use Rattle.helix_words.proofs.step.step_among.Goals as goal
use Rattle.helix_words.proofs.step.step_among.Goals.{then-has_rest+in_default, else-has_rest}

pub returns-in-Some-clause-step : goal.returns-in-Some-clause-step
returns-in-Some-clause-step g c =
    arc_found c.args.words.now.automaton c.args.from c.args.rest c.args.arcs.now c.loop-arc.arc-index
    (record { first = 0; last = 0; to = 0 }) c.loop-arc-test.true c.loop-arc.invariant.passed c.in-Some.character
    (c.has_rest.ensures.0 c.if-has_rest.true) c.in-Some.ensures.some

pub returns-in-Some-clause-moves : goal.returns-in-Some-clause-moves
returns-in-Some-clause-moves g c =
    moved_wider g.L.Ledger.IsNoted (c.loop-arc.arc-index + 1) (length c.args.arcs.now) c.args.steps.now c.tick.new.self
    (omega (arith, c.loop-arc-test.true))
    (moved_more g.L.Ledger.IsNoted c.loop-arc.arc-index c.args.steps.now c.loop-arc.steps c.tick.new.self
    c.loop-arc.invariant.moved (record { counted = c.tick.ensures.counts; noted = c.tick.ensures.noted }))

pub loop-arc-preserved : goal.loop-arc-preserved
loop-arc-preserved g c = record {
  passed = elim c.if-has_rest.branch [
    | then-has_rest+in_default w ↦
        arc_empty c.args.words.now.automaton c.args.from c.args.rest c.args.arcs.now c.loop-arc.arc-index
        (record { first = 0; last = 0; to = 0 }) c.loop-arc-test.true c.loop-arc.invariant.passed
        w.in_default.ensures.none
    | else-has_rest w ↦
        arc_dead c.args.words.now.automaton c.args.from c.args.rest c.args.arcs.now c.loop-arc.arc-index
        (record { first = 0; last = 0; to = 0 }) c.loop-arc-test.true c.loop-arc.invariant.passed
        (λ has. false≢true (sym w.if-has_rest.false ∙ c.has_rest.ensures.1 has))
  ];
  moved = moved_more g.L.Ledger.IsNoted c.loop-arc.arc-index c.args.steps.now c.loop-arc.steps c.tick.new.self
      c.loop-arc.invariant.moved (record { counted = c.tick.ensures.counts; noted = c.tick.ensures.noted });
}

pub returns-clause-step : goal.returns-clause-step
returns-clause-step g c =
    arcs_none c.args.words.now.automaton c.args.from c.args.rest c.args.arcs.now c.loop-arc.arc-index
    c.loop-arc-test.false
    c.loop-arc.invariant.passed

use Rattle.helix_words.specs.Moves.{MovedAtMost}
use Rattle.helix_words.proofs.StepAnswers.{ArePassed}
use Rattle.helix_words.proofs.step.step_among.Given as goal

abbrev pub invariant-loop-arc : goal.invariant-loop-arc
invariant-loop-arc g l = record {
  passed : ArePassed l.words.automaton l.from l.rest l.arcs l.arc-index;
  moved : MovedAtMost g.L.Ledger.IsNoted l.arc-index l.initial.steps l.steps;
}

use Rattle.std.proofs.Common.{length, arith}
use Rattle.helix_automata.specs.Automaton.{most_arcs}
use Rattle.helix_words.specs.MovesLaws.{moved_wider}
use Rattle.helix_words.proofs.step.step_from.Goals as goal

pub step_among-requires-clause-within : goal.step_among-requires-clause-within
step_among-requires-clause-within g c = λ i d within. (c.arcs_from.ensures.each i d within).within

pub returns-clause-step : goal.returns-clause-step
returns-clause-step g c =
    c.step_among.ensures.step c.args.state (c.arcs_from.ensures.are c.args.from c.args.rest
    (omega arith) c.requires.rest)

pub returns-clause-moves : goal.returns-clause-moves
returns-clause-moves g c =
    moved_wider g.L.Ledger.IsNoted (length c.arcs_from.result.now) (most_arcs c.args.words.now.automaton)
    c.args.steps.now c.step_among.new.steps c.arcs_from.ensures.few c.step_among.ensures.moves

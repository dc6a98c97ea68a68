use Rattle.std.proofs.Common.{◌*◌}
use Rattle.helix_automata.specs.Automaton.{most_arcs}
use Rattle.helix_words.specs.Moves.{MovedAtMost}
use Rattle.helix_words.proofs.Fillings.{SlotBegun}
use Rattle.helix_words.proofs.fill.fill.Given as goal

abbrev pub invariant-loop-done : goal.invariant-loop-done
invariant-loop-done g l = record {
  begun : SlotBegun l.words.automaton l.fn.state l.count l.done l.state l.initial.out l.out;
  moved : MovedAtMost g.L.Ledger.IsNoted (l.done * most_arcs l.words.automaton) l.initial.steps l.steps;
}

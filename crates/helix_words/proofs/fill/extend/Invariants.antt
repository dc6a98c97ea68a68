use Rattle.std.proofs.Common.{◌*◌}
use Rattle.helix_automata.specs.Automaton.{most_arcs}
use Rattle.helix_words.specs.Moves.{MovedAtMost}
use Rattle.helix_words.proofs.AlongTrails.{TrailBegun}
use Rattle.helix_words.proofs.fill.extend.Given as goal

abbrev pub invariant-loop-done : goal.invariant-loop-done
invariant-loop-done g l = record {
  begun : TrailBegun l.words.automaton l.count l.done l.state l.initial.trail l.trail;
  moved : MovedAtMost g.L.Ledger.IsNoted (l.done * most_arcs l.words.automaton) l.initial.steps l.steps;
}

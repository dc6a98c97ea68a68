use Rattle.std.proofs.Common.{◌*◌}
use Rattle.helix_automata.specs.Automaton.{most_arcs}
use Rattle.helix_words.specs.Moves.{MovedAtMost}
use Rattle.helix_words.proofs.Walking.{HasWalked}
use Rattle.helix_words.proofs.walk.walk_along.Given as goal

abbrev pub invariant-loop-place : goal.invariant-loop-place
invariant-loop-place g l = record {
  walked : HasWalked l.words.automaton l.word l.place l.state l.branch;
  moved : MovedAtMost g.L.Ledger.IsNoted (l.place * most_arcs l.words.automaton) l.initial.steps l.steps;
}

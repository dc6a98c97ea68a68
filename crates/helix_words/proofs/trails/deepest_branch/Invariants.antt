use Rattle.std.proofs.Common.{◌-◌, ◌*◌}
use Rattle.helix_automata.specs.Automaton.{most_arcs}
use Rattle.helix_words.specs.Moves.{MovedAtMost}
use Rattle.helix_words.proofs.Walking.{AreApart}
use Rattle.helix_words.proofs.trails.deepest_branch.Given as goal

abbrev pub invariant-loop-back : goal.invariant-loop-back
invariant-loop-back g l = record {
  apart : AreApart l.words.automaton l.trail.word (l.count - l.back);
  moved : MovedAtMost g.L.Ledger.IsNoted (l.back * most_arcs l.words.automaton) l.initial.steps l.steps;
}

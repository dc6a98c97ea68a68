use Rattle.std.proofs.Common.{◌↔◌, ◌<◌, drop, length}
use Rattle.helix_automata.specs.Automaton.{AcceptsFrom, Accepts}
use Rattle.helix_automata.proofs.dfa.Dfa.accepts.Given as goal

abbrev pub invariant-loop-code : goal.invariant-loop-code
invariant-loop-code l = (l.state < length l.fn.self.moves)
    × (AcceptsFrom l.fn.self l.state (drop l.code-index l.word) ↔ Accepts l.fn.self l.word)

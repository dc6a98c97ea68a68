use Rattle.std.proofs.Common.{◌↔◌, ℕ, List, length}
use Rattle.std.specs.List.{All}
use Rattle.helix_automata.specs.Automaton.{Accepts}
use Rattle.helix_automata.specs.Shape.{IsCharacter}
use Rattle.helix_domains.specs.Inner.Texts.{AllAccept}
use Rattle.helix_domains.proofs.patterns.product_of.Given as goal

abbrev pub invariant-loop-next : goal.invariant-loop-next
invariant-loop-next l = (word : List ℕ) → All IsCharacter word
    → (AllAccept l.left.items word × Accepts l.all word) ↔ AllAccept l.fn.dfas.items word

abbrev pub decreases-loop-next : goal.decreases-loop-next
decreases-loop-next l = length l.left.items

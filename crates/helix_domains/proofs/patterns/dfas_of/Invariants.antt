use Rattle.std.proofs.Common.{◌↔◌, ℕ, List, take}
use Rattle.std.specs.List.{All}
use Rattle.helix_automata.specs.Shape.{IsCharacter}
use Rattle.helix_domains.specs.Inner.Texts.{PassesWord, IsWordOfKind, AllAccept}
use Rattle.helix_domains.proofs.patterns.dfas_of.Given as goal

abbrev pub invariant-loop-signed : goal.invariant-loop-signed
invariant-loop-signed l = (word : List ℕ) → All IsCharacter word → AllAccept l.dfas.items word
    ↔ (IsWordOfKind l.fn.kind word × All (λ signed. PassesWord signed word) (take l.signed-index l.atoms))

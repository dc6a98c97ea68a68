use Rattle.std.proofs.Common.{◌↔◌, ℕ, List}
use Rattle.std.specs.List.{All}
use Rattle.helix_automata.specs.Automaton.{Accepts}
use Rattle.helix_automata.specs.Shape.{IsCharacter}
use Rattle.helix_values.specs.declared.kind.Kind.TheVariants as kind
use Rattle.helix_domains.specs.Inner.Texts.{IsWordOfKind}
use Rattle.helix_domains.proofs.Automata.{narrowed, as_kind}
use Rattle.helix_domains.proofs.patterns.push_kind.Goals as goal
use Rattle.helix_domains.proofs.patterns.push_kind.Goals.{in-Text+in_ok-dfa-in-Text, in-Code+in_ok-dfa-in-Code}

pub returns : goal.returns
returns c =
    let exact : (word : List ℕ) → All IsCharacter word → Accepts c.match-kind.dfa word ↔ IsWordOfKind c.args.kind word =
    elim c.match-kind.branch [
      | in-Text+in_ok-dfa-in-Text w ↦ as_kind c.args.kind (kind.Text w.in-Text.alphabet) c.match-kind.dfa
          w.in_ok-dfa-in-Text.dfa w.dfa-is w.in-Text.is w.in_ok-dfa-in-Text.ensures
      | in-Code+in_ok-dfa-in-Code w ↦ as_kind c.args.kind (kind.Code w.in-Code.code) c.match-kind.dfa
          w.in_ok-dfa-in-Code.dfa w.dfa-is w.in-Code.is w.in_ok-dfa-in-Code.ensures.words
    ] in
    narrowed (IsWordOfKind c.args.kind) c.args.dfas.now.items c.push.new.self.items c.match-kind.dfa
    c.in_ok-push.ensures.items exact

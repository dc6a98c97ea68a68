use Rattle.std.proofs.Common.{◌↔◌, ℕ, List}
use Rattle.std.specs.List.{All}
use Rattle.helix_automata.specs.Automaton.{Accepts}
use Rattle.helix_automata.specs.Shape.{IsCharacter}
use Rattle.helix_profile.specs.declared.test.Test.TheVariants as test
use Rattle.helix_domains.specs.Inner.Texts.{PassesWord}
use Rattle.helix_domains.proofs.Automata.{narrowed, as_word, equal_word, set_word}
use Rattle.helix_domains.proofs.patterns.push_atom.Goals as goal
use Rattle.helix_domains.proofs.patterns.push_atom.Goals.{in-Matching+in_ok-dfa-in-Matching, in-Containing+in_ok-dfa-in-Containing, in-EqualTo+in_ok-dfa-in-EqualTo, in-InSet+in_ok-dfa-in-InSet}

pub returns : goal.returns
returns c =
    let exact : (word : List ℕ) → All IsCharacter word → Accepts c.match-signed.dfa word
    ↔ PassesWord c.args.signed.now word =
    elim c.match-signed.branch [
      | in-Matching+in_ok-dfa-in-Matching w ↦ as_word c.args.signed.now (test.Matching w.in-Matching.regex)
          c.match-signed.dfa w.in_ok-dfa-in-Matching.dfa w.dfa-is w.in-Matching.is w.in_ok-dfa-in-Matching.ensures
      | in-Containing+in_ok-dfa-in-Containing w ↦ as_word c.args.signed.now (test.Containing w.in-Containing.regex)
          c.match-signed.dfa w.in_ok-dfa-in-Containing.dfa w.dfa-is w.in-Containing.is w.in_ok-dfa-in-Containing.ensures
      | in-EqualTo+in_ok-dfa-in-EqualTo w ↦ as_word c.args.signed.now (test.EqualTo w.in-EqualTo.operand)
          c.match-signed.dfa w.in_ok-dfa-in-EqualTo.dfa w.dfa-is w.in-EqualTo.is
          (equal_word c.args.signed.now.sign w.in-EqualTo.operand w.from_ref.result.now w.in_ok-dfa-in-EqualTo.dfa
          w.from_ref.ensures.value w.in_ok-dfa-in-EqualTo.ensures)
      | in-InSet+in_ok-dfa-in-InSet w ↦ as_word c.args.signed.now (test.InSet w.in-InSet.members)
          c.match-signed.dfa w.in_ok-dfa-in-InSet.dfa w.dfa-is w.in-InSet.is
          (set_word c.args.signed.now.sign w.in-InSet.members w.as_slice.result.now w.in_ok-dfa-in-InSet.dfa
          w.as_slice.ensures w.in_ok-dfa-in-InSet.ensures)
    ] in
    narrowed (PassesWord c.args.signed.now) c.args.dfas.now.items c.push.new.self.items c.match-signed.dfa
    c.in_ok-push.ensures.items exact

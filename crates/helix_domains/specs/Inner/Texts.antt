-- What signed atoms say of a text: of its length, and of the rest.
use Rattle.std.specs.Prelude.{◌≡◌, ◌↔◌, ℕ, ◌≤◌, ◌<◌, Bool, List}
use Rattle.std.specs.List.{All, Contains}
use Rattle.helix_automata.specs.Automaton.{Automaton, Accepts}
use Rattle.helix_automata.specs.Shape.{IsCharacter}
use Rattle.helix_base.specs.Alphabet.{IsCharacterOf}
use Rattle.helix_expr.specs.Matching.{Matches, ContainsMatch}
use Rattle.helix_values.specs.Codes.{IsValidCode}
use Rattle.helix_values.specs.Slot.{FitsSlot}
use Rattle.helix_values.specs.declared.cell.Cell.TheVariants as cell
use Rattle.helix_values.specs.declared.kind.Kind.{Kind}
use Rattle.helix_values.specs.declared.kind.Kind.TheVariants as kind
use Rattle.helix_profile.specs.Satisfaction.{Signed}
use Rattle.helix_profile.specs.declared.test.Test.{Test}
use Rattle.helix_profile.specs.declared.test.Test.TheVariants as test
use Rattle.helix_domains.specs.declared.atom.SignedAtom.{SignedAtom}
use Rattle.helix_domains.specs.declared.lengths.Lengths.{Lengths}

-- one of the lengths
pub record IsLengthOf (lengths : Lengths) (n : ℕ) : Type 0 where
  pub not_short : lengths.shortest ≤ n
  pub not_long : n < lengths.end
  pub not_refused : ¬ Contains lengths.refused n

-- what a test with a sign says of a text's length
abbrev pub IsLengthFor : Bool → Test → ℕ → Type 0
IsLengthFor sign (test.OfLength count) n = Signed sign (n ≡ count)
IsLengthFor sign (test.LongerThan count) n = Signed sign (count < n)
IsLengthFor sign (test.ShorterThan count) n = Signed sign (n < count)
IsLengthFor sign other n = Unit {0}

abbrev pub PassesLength : SignedAtom → ℕ → Type 0
PassesLength signed n = IsLengthFor signed.sign signed.atom.test n

-- what a test with a sign says of a text, if it isn't one of its length
abbrev pub IsWordFor : Bool → Test → List ℕ → Type 0
IsWordFor sign (test.EqualTo operand) word = Signed sign (cell.Text word ≡ operand)
IsWordFor sign (test.InSet members) word = Signed sign (Contains members (cell.Text word))
IsWordFor sign (test.Matching regex) word = Signed sign (Matches regex.expr word)
IsWordFor sign (test.Containing regex) word = Signed sign (ContainsMatch regex word)
IsWordFor sign other word = Unit {0}

abbrev pub PassesWord : SignedAtom → List ℕ → Type 0
PassesWord signed word = IsWordFor signed.sign signed.atom.test word

-- a text of the kind, if it isn't too long
abbrev pub IsWordOfKind : Kind → List ℕ → Type 0
IsWordOfKind (kind.Text alphabet) word = All (IsCharacterOf alphabet) word
IsWordOfKind (kind.Code code) word = IsValidCode code word
IsWordOfKind other word = Unit {0}

-- no text that the test lists is too long for a slot
abbrev pub HasShortTexts : Test → Type 0
HasShortTexts (test.EqualTo operand) = FitsSlot operand
HasShortTexts (test.InSet members) = All FitsSlot members
HasShortTexts other = Unit {0}

-- all automata accept a word
abbrev pub AllAccept : List Automaton → List ℕ → Type 0
AllAccept dfas word = All (λ dfa. Accepts dfa word) dfas

-- the new automata accept of the words that the old ones accept those of which a fact holds
abbrev pub AreNarrowed : (List ℕ → Type 0) → List Automaton → List Automaton → Type 0
AreNarrowed Fact old new = (word : List ℕ) → All IsCharacter word → AllAccept new word
    ↔ (AllAccept old word × Fact word)

-- The texts of a kind that pass signed atoms, as words of an automaton with lengths.
use Rattle.std.proofs.Common.{◌≡◌, ◌↔◌, ℕ, ◌-◌, ◌≤◌, ◌<◌, Bool, List, [], Some, length, get_or, refl, sym, ap, ◌∙◌, subst, arith}
use Rattle.std.specs.List.{All, Contains}
use Rattle.helix_automata.specs.Automaton.{Automaton, Accepts, most_arcs}
use Rattle.helix_automata.specs.Shape.{IsCharacter}
use Rattle.helix_values.proofs.ClassLaws.{class_of_value}
use Rattle.helix_values.specs.Class.{Class, strings, class_of, class_of_kind}
use Rattle.helix_values.specs.Counts.{characters}
use Rattle.helix_values.specs.Slot.{FitsSlot}
use Rattle.helix_values.specs.Universe.{InUniverse}
use Rattle.std.proofs.lemmas.List.Elements.{All-weaker, All-from_recursion}
use Rattle.helix_domains.specs.declared.values.Values.TheVariants.{Listed, Texts}
use Rattle.helix_domains.specs.Inner.Values.{AreValuesOf}
use Rattle.helix_domains.proofs.OfKinds.{fits_slot}
use Rattle.helix_values.specs.UniverseLaws.{in_widest}
use Rattle.helix_values.specs.declared.cell.Cell.{Cell}
use Rattle.helix_values.specs.declared.cell.Cell.TheVariants as cell
use Rattle.helix_values.specs.declared.kind.Kind.{Kind}
use Rattle.helix_values.specs.declared.kind.Kind.TheVariants as kind
use Rattle.helix_profile.specs.Holds.{Holds}
use Rattle.helix_profile.specs.Satisfaction.{Signed}
use Rattle.helix_profile.specs.Validity.{IsTestFor, IsBound, IsLevel}
use Rattle.helix_profile.specs.declared.test.Test.{Test}
use Rattle.helix_profile.specs.declared.test.Test.TheVariants as test
use Rattle.helix_words.specs.Words.{WordSet, IsWord, IsWordCell}
use Rattle.helix_domains.specs.Domain.{IsAllowed, IsAtomFor, IsTestOfValue}
use Rattle.helix_domains.specs.declared.atom.SignedAtom.{SignedAtom}
use Rattle.helix_domains.specs.declared.lengths.Lengths.{Lengths}
use Rattle.helix_domains.specs.Inner.Texts.{IsLengthOf, IsLengthFor, PassesLength, IsWordFor, PassesWord, IsWordOfKind, AllAccept, HasShortTexts}

-- what an atom says of a text, in two parts
text_parts : (sign : Bool) (t : Test) (word : List ℕ) → Signed sign (Holds t (cell.Text word))
    → IsLengthFor sign t (length word) × IsWordFor sign t word
text_parts sign (test.IsNull wanted) word holds = (tt, tt)
text_parts sign (test.EqualTo operand) word holds = (tt, holds)
text_parts sign (test.InSet members) word holds = (tt, holds)
text_parts sign (test.Matching regex) word holds = (tt, holds)
text_parts sign (test.Containing regex) word holds = (tt, holds)
text_parts sign (test.OfLength count) word holds = (holds, tt)
text_parts sign (test.LongerThan count) word holds = (holds, tt)
text_parts sign (test.ShorterThan count) word holds = (holds, tt)
text_parts sign (test.Above bound) word holds = (tt, tt)
text_parts sign (test.AtLeast bound) word holds = (tt, tt)
text_parts sign (test.Below bound) word holds = (tt, tt)
text_parts sign (test.AtMost bound) word holds = (tt, tt)
text_parts sign (test.OnGrid level) word holds = (tt, tt)

no_bound : (c : Class) (bound : Cell) → c ≡ strings → IsBound c bound → ⊥
no_bound c bound is bounds = subst (λ d. IsBound d bound) is bounds

no_level : (c : Class) (level : ℕ) → c ≡ strings → IsLevel c level → ⊥
no_level c level is levels = subst (λ d. IsLevel d level) is levels

text_joined : (k : Kind) → class_of_kind k ≡ strings → (sign : Bool) (t : Test) → IsTestOfValue t → IsTestFor k t
    → (word : List ℕ) → IsLengthFor sign t (length word) → IsWordFor sign t word
    → Signed sign (Holds t (cell.Text word))
text_joined k class sign (test.IsNull wanted) of_value fits word long is = absurd of_value
text_joined k class sign (test.EqualTo operand) of_value fits word long is = is
text_joined k class sign (test.InSet members) of_value fits word long is = is
text_joined k class sign (test.Matching regex) of_value fits word long is = is
text_joined k class sign (test.Containing regex) of_value fits word long is = is
text_joined k class sign (test.OfLength count) of_value fits word long is = long
text_joined k class sign (test.LongerThan count) of_value fits word long is = long
text_joined k class sign (test.ShorterThan count) of_value fits word long is = long
text_joined k class sign (test.Above bound) of_value fits word long is = absurd
    (no_bound (class_of_kind k) bound class fits)
text_joined k class sign (test.AtLeast bound) of_value fits word long is = absurd
    (no_bound (class_of_kind k) bound class fits)
text_joined k class sign (test.Below bound) of_value fits word long is = absurd
    (no_bound (class_of_kind k) bound class fits)
text_joined k class sign (test.AtMost bound) of_value fits word long is = absurd
    (no_bound (class_of_kind k) bound class fits)
text_joined k class sign (test.OnGrid level) of_value fits word long is = absurd
    (no_level (class_of_kind k) level class fits)

-- a text of a kind
pub universe_text : (k : Kind) → class_of_kind k ≡ strings → (word : List ℕ) → InUniverse k (cell.Text word)
    ↔ ((length word ≤ 1000) × All IsCharacter word × IsWordOfKind k word)
universe_text (kind.Text alphabet) class word = (
  (λ within. (within.0, (in_widest (kind.Text alphabet) (cell.Text word) within).1, within.1)),
  (λ is. (is.0, is.2)),
)
universe_text (kind.Code code) class word = (
  (λ within. let wide = in_widest (kind.Code code) (cell.Text word) within in (wide.0, wide.1, within)),
  (λ is. is.2),
)
universe_text kind.Boolean class word = cc
universe_text kind.Integer class word = cc
universe_text kind.Decimal class word = cc
universe_text kind.Date class word = cc
universe_text kind.DateTime class word = cc

-- a value of the kind is a text
pub text_of : (k : Kind) → class_of_kind k ≡ strings → (v : Cell) → InUniverse k v → (word : List ℕ)
    × (v ≡ cell.Text word)
text_of k class v within = by v (class_of_value k v within ∙ ap Some class)
  where
    by : (c : Cell) → class_of c ≡ Some strings → (word : List ℕ) × (c ≡ cell.Text word)
    by (cell.Text codes) is = (codes, refl)
    by cell.Null is = cc
    by (cell.Bool truth) is = cc
    by (cell.Number units) is = cc
    by (cell.Moment at) is = cc

module _ (k : Kind) (class : class_of_kind k ≡ strings) (atoms : List SignedAtom) (fit : All (IsAtomFor k) atoms)
    (lengths : Lengths)
    (of_length : (n : ℕ) → IsLengthOf lengths n ↔ ((n ≤ 1000) × All (λ signed. PassesLength signed n) atoms)) where
  lengths_pass : (word : List ℕ) → IsAllowed k atoms (cell.Text word) → IsLengthOf lengths (length word)
  lengths_pass word allowed = (of_length (length word)).1 (
    ((universe_text k class word).0 allowed.in_universe).0,
    λ i d within. (text_parts (get_or atoms i d).sign (get_or atoms i d).atom.test word (allowed.passes i d within)).0,
  )

  -- where no length is left there is no value
  pub none_allowed : lengths.end ≤ lengths.shortest → (v : Cell) → IsAllowed k atoms v → ⊥
  none_allowed past v allowed =
      let is = text_of k class v allowed.in_universe in
      let long = lengths_pass is.0 (subst (IsAllowed k atoms) is.1 allowed) in
      omega (arith, long.not_short, long.not_long, past)

  module _ (dfa : Automaton) (dfas : List Automaton)
      (product : (word : List ℕ) → All IsCharacter word → Accepts dfa word ↔ AllAccept dfas word)
      (patterns : (word : List ℕ) → All IsCharacter word → AllAccept dfas word
      ↔ (IsWordOfKind k word × All (λ signed. PassesWord signed word) atoms))
      (some : lengths.shortest < lengths.end) (words : WordSet) (automaton : words.automaton ≡ dfa)
      (shortest : words.shortest ≡ lengths.shortest) (longest : words.longest ≡ lengths.end - 1)
      (refused : words.refused ≡ lengths.refused) where
    is_word : (word : List ℕ) → IsAllowed k atoms (cell.Text word) → IsWord words word
    is_word word allowed =
        let within = (universe_text k class word).0 allowed.in_universe in
        let long = lengths_pass word allowed in
        record {
          characters = within.1;
          accepted = subst (λ a. Accepts a word) (sym automaton) ((product word within.1).1
              ((patterns word within.1).1 (
                within.2,
                λ i d inside. (text_parts (get_or atoms i d).sign (get_or atoms i d).atom.test word
                    (allowed.passes i d inside)).1,
              )));
          not_short = omega (arith, shortest, long.not_short);
          not_long = omega (arith, longest, long.not_long);
          not_refused = λ has. long.not_refused (subst (λ all. Contains all (length word)) refused has);
        }

    allowed_word : (word : List ℕ) → IsWord words word → IsAllowed k atoms (cell.Text word)
    allowed_word word is =
        let long : IsLengthOf lengths (length word) = record {
          not_short = omega (arith, shortest, is.not_short);
          not_long = omega (arith, longest, is.not_long, some);
          not_refused = λ has. is.not_refused (subst (λ all. Contains all (length word)) (sym refused) has);
        } in
        let passes = (of_length (length word)).0 long in
        let accepted = (patterns word is.characters).0 ((product word is.characters).0
        (subst (λ a. Accepts a word) automaton is.accepted)) in
        record {
          in_universe = (universe_text k class word).1 (passes.0, is.characters, accepted.0);
          passes = λ i d inside. text_joined k class (get_or atoms i d).sign (get_or atoms i d).atom.test
              (fit i d inside).of_value (fit i d inside).for_kind word (passes.1 i d inside) (accepted.1 i d inside);
        }

    pub words_exact : (v : Cell) → IsAllowed k atoms v ↔ IsWordCell words v
    words_exact v = (
      (λ allowed.
          let is = text_of k class v allowed.in_universe in
          subst (IsWordCell words) (sym is.1) (is_word is.0 (subst (IsAllowed k atoms) is.1 allowed))),
      (λ has. by v has),
    )
      where
        by : (c : Cell) → IsWordCell words c → IsAllowed k atoms c
        by (cell.Text word) has = allowed_word word has
        by cell.Null has = absurd has
        by (cell.Bool truth) has = absurd has
        by (cell.Number units) has = absurd has
        by (cell.Moment at) has = absurd has

-- no values where no length is left
pub no_values : (k : Kind) → class_of_kind k ≡ strings → (atoms : List SignedAtom) → All (IsAtomFor k) atoms
    → (lengths : Lengths)
    → ((n : ℕ) → IsLengthOf lengths n ↔ ((n ≤ 1000) × All (λ signed. PassesLength signed n) atoms))
    → (none : List Cell) → lengths.end ≤ lengths.shortest → none ≡ [] → AreValuesOf k atoms (Listed none)
no_values k class atoms fit lengths of_length none past is = subst (λ l. AreValuesOf k atoms (Listed l)) (sym is)
    (record {
      in_form = ((λ i j d less within. absurd (omega (arith, within))), (λ i d within. absurd (omega (arith, within))));
      exact = λ v. (
        (λ allowed. absurd (none_allowed k class atoms fit lengths of_length past v allowed)),
        (λ has. absurd (omega (arith, has.1))),
      );
    })

-- the values that are words
pub text_values : (k : Kind) (class : class_of_kind k ≡ strings) (atoms : List SignedAtom) → All (IsAtomFor k) atoms
    → (lengths : Lengths)
    → ((n : ℕ) → IsLengthOf lengths n ↔ ((n ≤ 1000) × All (λ signed. PassesLength signed n) atoms))
    → (dfa : Automaton) (dfas : List Automaton)
    → ((word : List ℕ) → All IsCharacter word → Accepts dfa word ↔ AllAccept dfas word)
    → ((word : List ℕ) → All IsCharacter word → AllAccept dfas word
    ↔ (IsWordOfKind k word × All (λ signed. PassesWord signed word) atoms))
    → lengths.shortest < lengths.end → lengths.end ≤ 1001 → (words : WordSet) (slice : List ℕ)
    → words ≡ record {
      automaton = dfa;
      shortest = lengths.shortest;
      longest = lengths.end - 1;
      refused = slice;
    } → slice ≡ lengths.refused → most_arcs dfa ≤ characters → AreValuesOf k atoms (Texts words)
text_values k class atoms fit lengths of_length dfa dfas product patterns some end words slice is same few = record {
  in_form = (
    class,
    omega (arith, ap (λ w. w.longest) is, end),
    subst (λ a. most_arcs a ≤ characters) (sym (ap (λ w. w.automaton) is)) few,
  );
  exact = words_exact k class atoms fit lengths of_length dfa dfas product patterns some words
      (ap (λ w. w.automaton) is) (ap (λ w. w.shortest) is) (ap (λ w. w.longest) is) (ap (λ w. w.refused) is ∙ same);
}

-- the sets of an atom for texts are short
pub short_texts : (k : Kind) (signed : SignedAtom) → IsAtomFor k signed → HasShortTexts signed.atom.test
short_texts k signed fits = by signed.atom.test fits.for_kind
  where
    by : (t : Test) → IsTestFor k t → HasShortTexts t
    by (test.IsNull wanted) is = tt
    by (test.EqualTo operand) is = fits_slot k operand is
    by (test.InSet members) is = All-weaker (InUniverse k) FitsSlot (fits_slot k) members
        (All-from_recursion (InUniverse k) members is.1)
    by (test.Matching regex) is = tt
    by (test.Containing regex) is = tt
    by (test.OfLength count) is = tt
    by (test.LongerThan count) is = tt
    by (test.ShorterThan count) is = tt
    by (test.Above bound) is = tt
    by (test.AtLeast bound) is = tt
    by (test.Below bound) is = tt
    by (test.AtMost bound) is = tt
    by (test.OnGrid level) is = tt

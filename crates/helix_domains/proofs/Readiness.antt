-- Signed atoms that are made ready.
use Rattle.std.proofs.Common.{◌≡◌, ◌↔◌, ℕ, ◌+◌, ◌≤◌, ◌<◌, ◌⊎◌, inl, inr, false, true, List, [], ◌∷◌, ◌++◌, length, get_or, take, Option, Some, sym, ◌∙◌, subst, arith, length-append}
use Rattle.std.specs.List.{All, Contains}
use Rattle.std.proofs.lemmas.Bool.{cases_lt}
use Rattle.std.proofs.lemmas.List.{get_or_append_left, get_or-take, length-take-le, get_or_default, take_all}
use Rattle.std.proofs.Math.Seq.{get_or-append_seam}
use Rattle.helix_automata.specs.Automaton.{Automaton, Accepts}
use Rattle.helix_automata.specs.Shape.{IsCharacter}
use Rattle.helix_compile.specs.Answers.{Answers}
use Rattle.helix_expr.specs.declared.regex.Regex.{Regex}
use Rattle.helix_values.specs.declared.cell.Cell.{Cell}
use Rattle.helix_values.specs.declared.cell.Cell.TheVariants as cell
use Rattle.helix_values.specs.declared.kind.Kind.{Kind}
use Rattle.helix_values.specs.declared.kind.Kind.TheVariants as kind
use Rattle.helix_values.specs.Universe.{InUniverse}
use Rattle.helix_values.specs.UniverseLaws.{in_widest}
use Rattle.helix_profile.specs.Holds.{Holds, IsTextWith}
use Rattle.helix_profile.specs.declared.test.Test.{Test}
use Rattle.helix_profile.specs.declared.test.Test.TheVariants as test
use Rattle.helix_domains.specs.Form.{AreAscending}
use Rattle.helix_domains.specs.declared.atom.SignedAtom.{SignedAtom}
use Rattle.helix_domains.specs.declared.ready.Ready.{Ready}
use Rattle.helix_domains.specs.declared.ready.Ready.TheVariants as ready
use Rattle.helix_domains.specs.Inner.Listed.{HaveSameCells}
use Rattle.helix_domains.specs.Domain.{PassesAtom}
use Rattle.helix_domains.specs.Inner.Ready.{HasCharacters, IsReadyFor, AreReady, PassesChosen}

pub members_ready : (signed : SignedAtom) (members slice all : List Cell) → signed.atom.test ≡ test.InSet members
    → slice ≡ members → AreAscending all → HaveSameCells slice all → IsReadyFor signed (ready.Members all)
members_ready signed members slice all is same ascending have = (
  ascending,
  λ v. subst (λ t. Contains all v ↔ Holds t v) (sym is) (subst (λ l. Contains all v ↔ Contains l v) same (have v)),
)

-- an automaton of a pattern tells of texts what the pattern's test says
pub texts_with : (dfa : Automaton) (Fact : List ℕ → Type 0)
    → ((word : List ℕ) → All IsCharacter word → Accepts dfa word ↔ Fact word) → (v : Cell) → HasCharacters v
    → IsTextWith (Accepts dfa) v ↔ IsTextWith Fact v
texts_with dfa Fact exact (cell.Text codes) characters = exact codes characters
texts_with dfa Fact exact cell.Null characters = ((λ h. h), (λ h. h))
texts_with dfa Fact exact (cell.Bool truth) characters = ((λ h. h), (λ h. h))
texts_with dfa Fact exact (cell.Number units) characters = ((λ h. h), (λ h. h))
texts_with dfa Fact exact (cell.Moment at) characters = ((λ h. h), (λ h. h))

pub matching_ready : (signed : SignedAtom) (regex : Regex) (dfa : Automaton) → signed.atom.test ≡ test.Matching regex
    → ((word : List ℕ) → All IsCharacter word → Accepts dfa word ↔ Answers regex false word)
    → IsReadyFor signed (ready.Pattern dfa)
matching_ready signed regex dfa is exact = λ v characters.
    subst (λ t. IsTextWith (Accepts dfa) v ↔ Holds t v) (sym is)
    (texts_with dfa (Answers regex false) exact v characters)

pub containing_ready : (signed : SignedAtom) (regex : Regex) (dfa : Automaton) → signed.atom.test
    ≡ test.Containing regex
    → ((word : List ℕ) → All IsCharacter word → Accepts dfa word ↔ Answers regex true word)
    → IsReadyFor signed (ready.Pattern dfa)
containing_ready signed regex dfa is exact = λ v characters.
    subst (λ t. IsTextWith (Accepts dfa) v ↔ Holds t v) (sym is)
    (texts_with dfa (Answers regex true) exact v characters)

-- a value of a universe has characters alone
pub has_characters : (k : Kind) (v : Cell) → InUniverse k v → HasCharacters v
has_characters (kind.Text alphabet) (cell.Text codes) within = (in_widest (kind.Text alphabet) (cell.Text codes)
    within).1
has_characters (kind.Code code) (cell.Text codes) within = (in_widest (kind.Code code) (cell.Text codes) within).1
has_characters kind.Boolean (cell.Text codes) within = absurd within
has_characters kind.Integer (cell.Text codes) within = absurd within
has_characters kind.Decimal (cell.Text codes) within = absurd within
has_characters kind.Date (cell.Text codes) within = absurd within
has_characters kind.DateTime (cell.Text codes) within = absurd within
has_characters k cell.Null within = tt
has_characters k (cell.Bool truth) within = tt
has_characters k (cell.Number units) within = tt
has_characters k (cell.Moment at) within = tt

-- one more signed atom that is ready
pub ready_more : (atoms : List SignedAtom) (all : List Ready) (i : ℕ) (signed : SignedAtom) (more : Ready)
    → i < length atoms → signed ≡ get_or atoms i signed → IsReadyFor signed more → AreReady (take i atoms) all
    → AreReady (take (i + 1) atoms) (all ++ more ∷ [])
ready_more atoms all i signed more within is one so_far = record {
  as_many = omega (arith, length-append all (more ∷ []), long, length-take-le (i + 1) atoms (omega (arith, within)));
  each = λ k d e below. by k d e (omega (arith, below, length-take-le (i + 1) atoms (omega (arith, within))))
      (cases_lt k i);
}
  where
    long : length all ≡ i
    long = so_far.as_many ∙ length-take-le i atoms (omega (arith, within))

    by : (k : ℕ) (d : SignedAtom) (e : Ready) → k < i + 1 → (k < i) ⊎ (i ≤ k)
        → IsReadyFor (get_or (take (i + 1) atoms) k d) (get_or (all ++ more ∷ []) k e)
    by k d e below (inl early) =
        subst (λ s. IsReadyFor s (get_or (all ++ more ∷ []) k e))
        (get_or-take i atoms k d early ∙ sym (get_or-take (i + 1) atoms k d below))
        (subst (IsReadyFor (get_or (take i atoms) k d))
        (sym (get_or_append_left all (more ∷ []) e k (omega (arith, early, long))))
        (so_far.each k d e (omega (arith, early, so_far.as_many, long))))
    by k d e below (inr last) =
        let same : i ≡ k = omega (arith, below, last) in
        let at : signed ≡ get_or (take (i + 1) atoms) i d =
        is ∙ get_or_default atoms i signed d within ∙ sym (get_or-take (i + 1) atoms i d (omega arith)) in
        let there : get_or (all ++ more ∷ []) i e ≡ more =
        subst (λ n. get_or (all ++ more ∷ []) n e ≡ more) long (get_or-append_seam all more [] e) in
        subst (λ j. IsReadyFor (get_or (take (i + 1) atoms) j d) (get_or (all ++ more ∷ []) j e)) same
        (subst (λ s. IsReadyFor s (get_or (all ++ more ∷ []) i e)) at (subst (IsReadyFor signed) (sym there) one))

pub ready_all : (atoms : List SignedAtom) (all : List Ready) (i : ℕ) → length atoms ≤ i → AreReady (take i atoms) all
    → AreReady atoms all
ready_all atoms all i past so_far = subst (λ l. AreReady l all) (take_all i atoms past) so_far

pub ready_at : (atoms : List SignedAtom) (all : List Ready) (i : ℕ) (signed : SignedAtom) (one : Ready)
    → AreReady atoms all
    → i < length atoms → signed ≡ get_or atoms i signed → one ≡ get_or all i one → IsReadyFor signed one
ready_at atoms all i signed one are within is at =
    subst (λ s. IsReadyFor s one) (sym is) (subst (IsReadyFor (get_or atoms i signed)) (sym at)
    (are.each i signed one within))

pub chosen_at : (atoms : List SignedAtom) (chosen : Option ℕ) (v : Cell) (i : ℕ) (signed : SignedAtom)
    → PassesChosen atoms chosen v → chosen ≡ Some i → i < length atoms → signed ≡ get_or atoms i signed
    → PassesAtom signed v
chosen_at atoms chosen v i signed passes here within is =
    subst (λ s. PassesAtom s v) (sym is) (passes i signed here within)

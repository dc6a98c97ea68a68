-- The automaton of the states that were met accepts what the machine accepts from the first one.
use Rattle.std.proofs.Common.{◌≡◌, ◌⊎◌, ◌↔◌, inl, inr, ℕ, zero, suc, ◌<◌, ◌≤◌, ◌^◌, Bool, true, Some, None, List, [], ◌∷◌, ◌++◌, All, length, get_or, slice_get, ap, arith, sym, ◌∙◌, subst}
use Rattle.std.proofs.lemmas.Bool.{cases_lt}
use Rattle.std.proofs.lemmas.Option.{slice_get_within, slice_get-get_or, same_Some, none-some}
use Rattle.std.proofs.lemmas.List.{get_or_default}
use Rattle.std.proofs.lemmas.List.Elements.{All-head, All-tail}
use Rattle.helix_automata.specs.declared.arc.Arc.{Arc}
use Rattle.helix_automata.specs.Automaton.{Automaton, AcceptsFrom, Accepts}
use Rattle.helix_automata.specs.Shape.{IsCharacter, AreArcs, IsWellFormed}
use Rattle.helix_automata.specs.Inner.Explore.{AreStates, AreArcsOf}

-- what the loop over the states keeps
pub record Made {S : Type 0} (IsState : S → Type 0) (Words : S → List ℕ → Type 0) (start : S) (states : List S)
    (moves : List (List Arc)) (flags : List Bool) (done : ℕ) : Type 0 where
  pub moves_are : length moves ≡ done
  pub flags_are : length flags ≡ done
  pub within : done ≤ length states
  pub first : S
  pub is_first : slice_get states 0 ≡ Some first
  pub same : (word : List ℕ) → Words start word ↔ Words first word
  pub are : AreStates IsState states
  pub rows : (k : ℕ) (state : S) → k < done → slice_get states k ≡ Some state
      → AreArcsOf Words state states (get_or moves k [])
  pub ends : (k : ℕ) (state : S) → k < done → slice_get states k ≡ Some state → (slice_get flags k ≡ Some true)
      ↔ Words state []

module _ {S : Type 0} (IsState : S → Type 0) (Words : S → List ℕ → Type 0) (start : S) (states : List S)
    (moves : List (List Arc)) (flags : List Bool) (done : ℕ)
    (made : Made IsState Words start states moves flags done) (all : length states ≤ done) where
  abbrev built : Automaton
  built = record { moves = moves; accepting = flags }

  accepts_state : (word : List ℕ) → All IsCharacter word → (k : ℕ) (state : S) → slice_get states k ≡ Some state
      → AcceptsFrom built k word ↔ Words state word
  accepts_state [] characters k state at =
      made.ends k state (let w = slice_get_within states k state at in omega (arith, w, all)) at
  accepts_state (code ∷ word) characters k state at =
      let below : k < done = (let w = slice_get_within states k state at in omega (arith, w, all)) in
      let leads = (made.rows k state below at).leads code (All-head IsCharacter code word characters) in
      let rest = accepts_state word (All-tail IsCharacter code word characters) leads.number leads.next
      leads.is_next in (
        (λ h. let is : h.0 ≡ leads.number = same_Some h.0 leads.number (sym h.1 ∙ leads.is_number) in
            (leads.leads word).0 (rest.0 (subst (λ n. AcceptsFrom built n word) is h.2))),
        (λ h. (leads.number, leads.is_number, rest.1 ((leads.leads word).1 h))),
      )

  pub made_accepts : (word : List ℕ) → All IsCharacter word → Accepts built word ↔ Words start word
  made_accepts word characters =
      let first = accepts_state word characters 0 made.first made.is_first in
      ((λ h. (made.same word).1 (first.0 h)), (λ h. first.1 ((made.same word).0 h)))

  pub made_well : done < 2 ^ 32 → IsWellFormed built
  made_well few = let w = slice_get_within states 0 made.first made.is_first in record {
    some = omega (arith, w, all, made.moves_are);
    few = omega (arith, few, made.moves_are);
    flags = made.flags_are ∙ sym made.moves_are;
    rows = λ k d below. row k d (omega (arith, below, made.moves_are, made.within)) below;
  }
    where
      row : (k : ℕ) (d : List Arc) → k < length states → k < length moves → AreArcs (length moves) (get_or moves k d)
      row k d in_states in_moves =
          let are = made.rows k (get_or states k made.first) (omega (arith, in_moves, made.moves_are))
          (slice_get-get_or states k made.first in_states) in
          let same : length states ≡ length moves = omega (arith, all, made.within, made.moves_are) in
          subst (λ n. AreArcs n (get_or moves k d)) same
          (subst (λ r. AreArcs (length states) r) (get_or_default moves k [] d in_moves) are.shape)

-- no state has the number
pub none_after : {S : Type 0} (l : List S) (d : S) (k : ℕ) → slice_get l k ≡ None → length l ≤ k
none_after l d k none = elim (cases_lt k (length l)) [
  | inl less ↦ absurd (none-some (get_or l k d) (sym none ∙ slice_get-get_or l k d less))
  | inr more ↦ more
]

-- before the arcs of the first state are made
pub made_start : {S : Type 0} (IsState : S → Type 0) (Words : S → List ℕ → Type 0) (start equal : S)
    (old states : List S) (number : ℕ) (moves : List (List Arc)) (flags : List Bool)
    → old ≡ [] → (states ≡ old) ⊎ (states ≡ old ++ start ∷ []) → slice_get states number ≡ Some equal → IsState start
    → moves ≡ [] → flags ≡ []
    → Made IsState Words start states moves flags 0
made_start {S} IsState Words start equal old states number moves flags empty grows at is_state no_moves no_flags =
    record {
      moves_are = ap length no_moves;
      flags_are = ap length no_flags;
      within = omega arith;
      first = start;
      is_first = ap (λ l. slice_get l 0) only;
      same = λ word. ((λ h. h), (λ h. h));
      are = λ k s is. subst IsState (only_one k s (sym (ap (λ l. slice_get l k) only) ∙ is)) is_state;
      rows = λ k s below is. absurd (omega (arith, below));
      ends = λ k s below is. absurd (omega (arith, below));
    }
  where
    is_only : (states ≡ old) ⊎ (states ≡ old ++ start ∷ []) → states ≡ start ∷ []
    is_only (inl is) = absurd (none-some equal (sym (ap (λ l. slice_get l number) (is ∙ empty)) ∙ at))
    is_only (inr is) = is ∙ ap (λ l. l ++ start ∷ []) empty

    only : states ≡ start ∷ []
    only = is_only grows

    only_one : (k : ℕ) (s : S) → slice_get (start ∷ []) k ≡ Some s → start ≡ s
    only_one zero s is = same_Some start s is
    only_one (suc k) s is = absurd (none-some s is)

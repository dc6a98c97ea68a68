-- Sets of states as the states of a machine.
use Rattle.std.proofs.Common.{◌≡◌, ◌⊎◌, ◌↔◌, inl, inr, ℕ, zero, suc, ◌≤◌, Bool, true, Option, Some, None, Result, Ok, Err, IfOk, List, [], ◌∷◌, ◌++◌, All, Any, length, slice_get, Contains, ap, arith, refl, sym, ◌∙◌, subst}
use Rattle.helix_automata.specs.Automaton.{Automaton, Accepts}
use Rattle.helix_automata.specs.Shape.{IsCharacter}
use Rattle.helix_compile.specs.declared.nfa.State.{State}
use Rattle.helix_compile.specs.declared.nfa.State.TheVariants.{Accept, AcceptAll, Fail, Read, Split}
use Rattle.helix_compile.specs.Inner.Nfa.{GoesOn, NfaAcceptsIn, NfaAccepts}
use Rattle.helix_compile.specs.Inner.Subsets.{SomeAccepts, AcceptTheSame, LeadsTo, HasNoSplit, IsReadAlike, AcceptsEmpty}
use Rattle.helix_compile.proofs.Stepping.{leads_alike}

-- the empty word is accepted where the state says so, unless it is a split
empty_here : (From : ℕ → List ℕ → Type 0) (at : Option State) → AcceptsEmpty at → GoesOn From at []
empty_here From None is = absurd is
empty_here From (Some Accept) is = refl
empty_here From (Some AcceptAll) is = tt
empty_here From (Some Fail) is = absurd is
empty_here From (Some (Read ranges next)) is = absurd is
empty_here From (Some (Split one other)) is = absurd is

here_empty : (From : ℕ → List ℕ → Type 0) (at : Option State) → ((one other : ℕ) → at ≡ Some (Split one other) → ⊥)
    → GoesOn From at [] → AcceptsEmpty at
here_empty From None no_split goes = absurd goes
here_empty From (Some Accept) no_split goes = tt
here_empty From (Some AcceptAll) no_split goes = tt
here_empty From (Some Fail) no_split goes = absurd goes
here_empty From (Some (Read ranges next)) no_split goes = absurd goes
here_empty From (Some (Split one other)) no_split goes = absurd (no_split one other refl)

module _ (nfa : List State) (set : List ℕ) (no_split : HasNoSplit nfa set) where
  to_empty : Any (λ number. AcceptsEmpty (slice_get nfa number)) set → SomeAccepts nfa set []
  to_empty (k, n, within, is, at) =
      (n, (k, within, is), (1, empty_here (λ next rest. NfaAcceptsIn nfa 0 next rest) (slice_get nfa n) at))

  from_empty : SomeAccepts nfa set [] → Any (λ number. AcceptsEmpty (slice_get nfa number)) set
  from_empty (n, has, (zero, accepts)) = absurd accepts
  from_empty (n, (k, within, is), (suc steps, accepts)) = (
    k,
    n,
    within,
    is,
    here_empty (λ next rest. NfaAcceptsIn nfa steps next rest) (slice_get nfa n)
        (λ one other at. no_split n one other (k, within, is) at) accepts,
  )

  pub empty_accepted : (answer : Bool) → (answer ≡ true) ↔ Any (λ number. AcceptsEmpty (slice_get nfa number)) set
      → (answer ≡ true) ↔ SomeAccepts nfa set []
  empty_accepted answer is = ((λ e. to_empty (is.0 e)), (λ h. is.1 (from_empty h)))

  -- one step
  pub leads_on : (next : List ℕ) (first last : ℕ) → first ≤ last → LeadsTo nfa set first next
      → ((other : ℕ) → first ≤ other → other ≤ last → (n : ℕ) → Contains set n → IsReadAlike nfa n first other)
      → (code : ℕ) → first ≤ code → code ≤ last → (word : List ℕ) → SomeAccepts nfa next word
      ↔ SomeAccepts nfa set (code ∷ word)
  leads_on next first last reached leads alike code low high word =
      leads_alike nfa set next first code no_split (alike code low high) leads word

-- what one state accepts
pub one_accepts : (nfa : List State) (start : ℕ) (none seen set : List ℕ) → none ≡ [] → (seen ≡ none)
    ⊎ (seen ≡ none ++ start ∷ []) → Contains seen start → AcceptTheSame nfa seen set
    → (word : List ℕ) → SomeAccepts nfa set word ↔ NfaAccepts nfa start word
one_accepts nfa start none seen set empty added has same word =
    ((λ h. from ((same word).1 h)), (λ h. (same word).0 (start, has, h)))
  where
    only : (n : ℕ) → (seen ≡ none) ⊎ (seen ≡ none ++ start ∷ []) → Contains seen n → n ≡ start
    only n (inl is) (k, within, at) = absurd (omega (arith, within, ap length is, ap length empty))
    only n (inr is) has_n = alone n (subst (λ l. Contains l n) (is ∙ ap (λ l. l ++ start ∷ []) empty) has_n)
      where
        alone : (n : ℕ) → Contains (start ∷ []) n → n ≡ start
        alone n (zero, within, is) = sym is
        alone n (suc k, within, is) = absurd (omega (arith, within))

    from : SomeAccepts nfa seen word → NfaAccepts nfa start word
    from (n, has_n, accepts) = subst (λ m. NfaAccepts nfa m word) (only n added has_n) accepts

-- what is accepted from the first set
pub accepts_start : {E : Type 0} (r : Result Automaton E) (nfa : List State) (start : ℕ) (set : List ℕ)
    → ((word : List ℕ) → SomeAccepts nfa set word ↔ NfaAccepts nfa start word)
    → IfOk r (λ dfa. (word : List ℕ) → All IsCharacter word → Accepts dfa word ↔ SomeAccepts nfa set word)
    → IfOk r (λ dfa. (word : List ℕ) → All IsCharacter word → Accepts dfa word ↔ NfaAccepts nfa start word)
accepts_start (Err e) nfa start set same explored = tt
accepts_start (Ok dfa) nfa start set same explored = λ word characters.
    let is = explored word characters in ((λ h. (same word).0 (is.0 h)), (λ h. is.1 ((same word).1 h)))

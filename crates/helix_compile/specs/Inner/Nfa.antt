-- The words that a nondeterministic automaton accepts.
use Rattle.std.specs.Prelude.{◌≡◌, ℕ, zero, suc, ◌<◌, ◌≤◌, ◌⊎◌, Option, Some, None, List, [], ◌∷◌, ◌++◌, length, slice_get}
use Rattle.helix_expr.specs.Matching.{InRanges}
use Rattle.helix_compile.specs.declared.nfa.State.{State}
use Rattle.helix_compile.specs.declared.nfa.State.TheVariants.{Accept, AcceptAll, Fail, Read, Split}

-- what a state accepts, where it is known what the next ones do
abbrev pub GoesOn : (ℕ → List ℕ → Type 0) → Option State → List ℕ → Type 0
GoesOn From None word = ⊥
GoesOn From (Some Accept) word = word ≡ []
GoesOn From (Some AcceptAll) word = Unit {0}
GoesOn From (Some Fail) word = ⊥
GoesOn From (Some (Read ranges next)) [] = ⊥
GoesOn From (Some (Read ranges next)) (code ∷ word) = InRanges ranges code × From next word
GoesOn From (Some (Split one other)) word = From one word ⊎ From other word

-- the word is accepted from a state, in n steps
abbrev pub NfaAcceptsIn : List State → ℕ → ℕ → List ℕ → Type 0
NfaAcceptsIn nfa zero state word = ⊥
NfaAcceptsIn nfa (suc steps) state word =
    GoesOn (λ next rest. NfaAcceptsIn nfa steps next rest) (slice_get nfa state) word

-- in any number of them
abbrev pub NfaAccepts : List State → ℕ → List ℕ → Type 0
NfaAccepts nfa state word = (steps : ℕ) × NfaAcceptsIn nfa steps state word

-- what is accepted from one state is a word of a language and then what is accepted from another one, in no more steps
pub record LeadsThrough (nfa : List State) (from : ℕ) (Language : List ℕ → Type 0) (to : ℕ) : Type 0 where
  pub splits : (steps : ℕ) (word : List ℕ) → NfaAcceptsIn nfa steps from word
      → (prefix : List ℕ) × (rest : List ℕ) × (fewer : ℕ) × (word ≡ prefix ++ rest) × Language prefix × (fewer ≤ steps)
      × NfaAcceptsIn nfa fewer to rest
  pub joins : (prefix rest : List ℕ) → Language prefix → NfaAccepts nfa to rest → NfaAccepts nfa from (prefix ++ rest)

-- states that are the same from one number up to the end of a list
abbrev pub AgreeFrom : ℕ → List State → List State → Type 0
AgreeFrom start made nfa = (k : ℕ) → start ≤ k → k < length made → slice_get nfa k ≡ slice_get made k

-- the states before stay
pub record Grows (old new : List State) : Type 0 where
  pub longer : length old ≤ length new
  pub keeps : (k : ℕ) → k < length old → slice_get new k ≡ slice_get old k

-- the states that were added lead from one through a language to another, whatever the other states are
abbrev pub Builds : List State → List State → ℕ → (List ℕ → Type 0) → ℕ → Type 0
Builds old new from Language to = (nfa : List State) → AgreeFrom (length old) new nfa
    → LeadsThrough nfa from Language to

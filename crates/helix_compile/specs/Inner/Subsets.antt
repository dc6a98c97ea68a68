-- Sets of states.
use Rattle.std.specs.Prelude.{◌≡◌, ◌↔◌, ℕ, Option, Some, None, List, ◌∷◌, Contains, slice_get}
use Rattle.helix_base.specs.Ranges.{in_ranges}
use Rattle.helix_compile.specs.declared.nfa.State.{State}
use Rattle.helix_compile.specs.declared.nfa.State.TheVariants.{Accept, AcceptAll, Fail, Read, Split}
use Rattle.helix_compile.specs.Inner.Nfa.{NfaAccepts}

-- the word is accepted from some state of a set
abbrev pub SomeAccepts : List State → List ℕ → List ℕ → Type 0
SomeAccepts nfa set word = (state : ℕ) × Contains set state × NfaAccepts nfa state word

-- from both sets the same words are accepted
abbrev pub AcceptTheSame : List State → List ℕ → List ℕ → Type 0
AcceptTheSame nfa one other = (word : List ℕ) → SomeAccepts nfa one word ↔ SomeAccepts nfa other word

-- a character leads from one set to another: that accepts a word exactly where this accepts the character and then the
-- word
abbrev pub LeadsTo : List State → List ℕ → ℕ → List ℕ → Type 0
LeadsTo nfa set code next = (word : List ℕ) → SomeAccepts nfa next word ↔ SomeAccepts nfa set (code ∷ word)

-- no state of the set is a split
abbrev pub HasNoSplit : List State → List ℕ → Type 0
HasNoSplit nfa set = (number one other : ℕ) → Contains set number → slice_get nfa number ≡ Some (Split one other) → ⊥

-- the state reads either both codes or neither
abbrev pub IsReadAlike : List State → ℕ → ℕ → ℕ → Type 0
IsReadAlike nfa number code other = (ranges : List (ℕ × ℕ)) (next : ℕ) → slice_get nfa number ≡ Some (Read ranges next)
    → in_ranges ranges other ≡ in_ranges ranges code

-- the state accepts the empty word without a further step
abbrev pub AcceptsEmpty : Option State → Type 0
AcceptsEmpty None = ⊥
AcceptsEmpty (Some Accept) = Unit {0}
AcceptsEmpty (Some AcceptAll) = Unit {0}
AcceptsEmpty (Some Fail) = ⊥
AcceptsEmpty (Some (Read ranges next)) = ⊥
AcceptsEmpty (Some (Split one other)) = ⊥

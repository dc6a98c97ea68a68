-- The epsilon closure accepts what the set does.
use Rattle.std.proofs.Common.{◌≡◌, ◌⊎◌, inl, inr, ℕ, zero, suc, ◌+◌, ◌<◌, ◌≤◌, Option, Some, None, List, [], ◌∷◌, length, get_or, slice_get, Contains, ap, arith, refl, sym, ◌∙◌, subst}
use Rattle.std.proofs.lemmas.Bool.{cases_lt}
use Rattle.std.proofs.lemmas.Option.{slice_get_within, slice_get-get_or}
use Rattle.std.proofs.lemmas.List.Sorted.{Contains-permutation, IsPermutation-sym}
use Rattle.std.specs.Prelude.{IsPermutation}
use Rattle.helix_compile.specs.declared.nfa.State.{State}
use Rattle.helix_compile.specs.declared.nfa.State.TheVariants.{Accept, AcceptAll, Fail, Read, Split}
use Rattle.helix_compile.specs.Inner.Nfa.{GoesOn, NfaAcceptsIn, NfaAccepts}
use Rattle.helix_compile.specs.Inner.Subsets.{SomeAccepts, AcceptTheSame, HasNoSplit}
use Rattle.helix_compile.specs.Inner.Closure.{IsKept, SplitsTo, Visits}
use Rattle.helix_compile.proofs.Members.{same_some, contains_at, at_contains, none_after}

-- what a side of a split accepts is accepted by the split
split_on : (From : ℕ → List ℕ → Type 0) (at : Option State) (side : ℕ) (word : List ℕ) → SplitsTo at side
    → From side word → GoesOn From at word
split_on From None side word split reads = absurd split
split_on From (Some Accept) side word split reads = absurd split
split_on From (Some AcceptAll) side word split reads = absurd split
split_on From (Some Fail) side word split reads = absurd split
split_on From (Some (Read ranges next)) side word split reads = absurd split
split_on From (Some (Split one other)) side word (inl e) reads = inl (subst (λ n. From n word) e reads)
split_on From (Some (Split one other)) side word (inr e) reads = inr (subst (λ n. From n word) e reads)

-- and what a state accepts is accepted by a side of it, or the state is kept
sided : (From : ℕ → List ℕ → Type 0) (at : Option State) (word : List ℕ) → GoesOn From at word → IsKept at
    ⊎ ((side : ℕ) × SplitsTo at side × From side word)
sided From None word reads = absurd reads
sided From (Some Accept) word reads = inl tt
sided From (Some AcceptAll) word reads = inl tt
sided From (Some Fail) word reads = absurd reads
sided From (Some (Read ranges next)) word reads = inl tt
sided From (Some (Split one other)) word (inl reads) = inr (one, inl refl, reads)
sided From (Some (Split one other)) word (inr reads) = inr (other, inr refl, reads)

-- what the loop over the states that have been seen keeps
pub record Closing (nfa : List State) (start seen found : List ℕ) (done : ℕ) : Type 0 where
  pub within : done ≤ length seen
  pub starts : (n : ℕ) → Contains start n → Contains seen n
  pub only : (word : List ℕ) → SomeAccepts nfa seen word → SomeAccepts nfa start word
  pub sides : (k n side : ℕ) → k < done → slice_get seen k ≡ Some n → SplitsTo (slice_get nfa n) side
      → Contains seen side
  pub rest : (k n : ℕ) → k < done → slice_get seen k ≡ Some n → IsKept (slice_get nfa n) → Contains found n
  pub only_rest : (n : ℕ) → Contains found n → Contains seen n × IsKept (slice_get nfa n)

pub closing_start : (nfa : List State) (start found : List ℕ) → found ≡ [] → Closing nfa start start found 0
closing_start nfa start found empty = record {
  within = omega arith;
  starts = λ n has. has;
  only = λ word reads. reads;
  sides = λ k n side below at split. absurd (omega (arith, below));
  rest = λ k n below at is. absurd (omega (arith, below));
  only_rest = λ n has. absurd (none n (subst (λ l. Contains l n) empty has));
}
  where
    none : (n : ℕ) → Contains [] n → ⊥
    none n (k, within, is) = omega (arith, within)

module _ (nfa : List State) (start seen new found new_found : List ℕ) (done number : ℕ)
    (closing : Closing nfa start seen found done)
    (at : slice_get seen done ≡ Some number)
    (visits : Visits (slice_get nfa number) number seen new found new_found) where
  old_index : (k n : ℕ) → k ≤ done → slice_get new k ≡ Some n → slice_get seen k ≡ Some n
  old_index k n low is =
      let within : k < length seen = (let w = slice_get_within seen done number at in omega (arith, w, low)) in
      let here = slice_get-get_or seen k n within in
      here ∙ (sym (visits.extends k (get_or seen k n) here) ∙ is)

  still : (n : ℕ) → Contains seen n → Contains new n
  still n has = let (k, is) = at_contains seen n has in contains_at new k n (visits.extends k n is)

  only_more : (word : List ℕ) → SomeAccepts nfa new word → SomeAccepts nfa seen word
  only_more word (n, has, (steps, reads)) = elim (visits.only_sides n has) [
    | inl old ↦ (n, old, (steps, reads))
    | inr split ↦ (
      number,
      contains_at seen done number at,
      (suc steps, split_on (λ next rest. NfaAcceptsIn nfa steps next rest) (slice_get nfa number) n word split reads),
    )
  ]

  by_index : {P : Type 0} (k n : ℕ) → k < done + 1 → slice_get new k ≡ Some n
      → (k < done → slice_get seen k ≡ Some n → P) → (n ≡ number → P) → P
  by_index k n below is f g = elim (cases_lt k done) [
    | inl less ↦ f less (old_index k n (omega (arith, less)) is)
    | inr more ↦ (let same : k ≡ done = omega (arith, more, below) in
        g (same_some n number (sym (old_index k n (omega (arith, same)) is) ∙ (ap (λ j. slice_get seen j) same ∙ at))))
  ]

  pub closing_more : Closing nfa start new new_found (done + 1)
  closing_more = record {
    within = let w = slice_get_within new done number (visits.extends done number at) in omega (arith, w);
    starts = λ n has. still n (closing.starts n has);
    only = λ word reads. closing.only word (only_more word reads);
    sides = λ k n side below is split. by_index k n below is
        (λ less old. still side (closing.sides k n side less old split))
        (λ same. visits.sides side (subst (λ m. SplitsTo (slice_get nfa m) side) same split));
    rest = λ k n below is rest. by_index k n below is (λ less old. visits.keeps n (closing.rest k n less old rest))
        (λ same. subst (λ m. Contains new_found m) (sym same)
        (visits.rest (subst (λ m. IsKept (slice_get nfa m)) same rest)));
    only_rest = λ n has. elim (visits.only_rest n has) [
      | inl old ↦ (let both = closing.only_rest n old in (still n both.0, both.1))
      | inr new_one ↦ (
        subst (λ m. Contains new m) (sym new_one.0)
            (contains_at new done number (visits.extends done number at)),
        subst (λ m. IsKept (slice_get nfa m))
            (sym new_one.0) new_one.1,
      )
    ];
  }

-- all that has been seen was visited
module _ (nfa : List State) (start seen found sorted : List ℕ) (done : ℕ) (closing : Closing nfa start seen found done)
    (none : slice_get seen done ≡ None)
    (same : IsPermutation found sorted) where
  reads_found : (steps n : ℕ) (word : List ℕ) → Contains seen n → NfaAcceptsIn nfa steps n word
      → SomeAccepts nfa found word
  reads_found zero n word has reads = absurd reads
  reads_found (suc steps) n word has reads =
      let (k, at) = at_contains seen n has in
      let below : k < done =
      (let w = slice_get_within seen k n at in let l = none_after seen 0 done none in omega (arith, w, l)) in
      elim (sided (λ next rest. NfaAcceptsIn nfa steps next rest) (slice_get nfa n) word reads) [
        | inl rest ↦ (n, closing.rest k n below at rest, (suc steps, reads))
        | inr side ↦ reads_found steps side.0 word (closing.sides k n side.0 below at side.1) side.2
      ]

  pub closed_same : AcceptTheSame nfa start sorted
  closed_same word = (
    (λ (n, has, (steps, reads)). let (m, found_m, reads_m) =
        reads_found steps n word (closing.starts n has)
        reads in (m, Contains-permutation found sorted m same found_m, reads_m)),
    (λ (n, has, reads). closing.only word (
      n,
      (closing.only_rest n (Contains-permutation sorted found n (IsPermutation-sym found sorted same) has)).0,
      reads,
    )),
  )

  pub closed_no_split : HasNoSplit nfa sorted
  closed_no_split number one other has is =
      subst (λ o. IsKept o) is
      (closing.only_rest number
      (Contains-permutation sorted found number (IsPermutation-sym found sorted same) has)).1

-- one of those that were seen accepts every word, and is found alone
module _ (nfa : List State) (start seen found kept : List ℕ) (done number : ℕ)
    (closing : Closing nfa start seen found done) (there : slice_get seen done ≡ Some number)
    (at : slice_get nfa number ≡ Some AcceptAll) (is : kept ≡ number ∷ []) where
  accepts : (word : List ℕ) → NfaAccepts nfa number word
  accepts word = (1, subst (λ o. GoesOn (λ next rest. NfaAcceptsIn nfa 0 next rest) o word) (sym at) tt)

  is_kept : Contains kept number
  is_kept = subst (λ l. Contains l number) (sym is) (contains_at (number ∷ []) 0 number refl)

  kept_alone : (n : ℕ) → Contains kept n → n ≡ number
  kept_alone n has = alone n (subst (λ l. Contains l n) is has)
    where
      alone : (n : ℕ) → Contains (number ∷ []) n → n ≡ number
      alone n (zero, within, is) = sym is
      alone n (suc k, within, is) = absurd (omega (arith, within))

  pub all_same : AcceptTheSame nfa start kept
  all_same word = (
    (λ h. (number, is_kept, accepts word)),
    (λ h. closing.only word (number, contains_at seen done number there, accepts word)),
  )

  pub all_no_split : HasNoSplit nfa kept
  all_no_split n one other has is_split =
      let both : Some AcceptAll ≡ Some (Split one other) = sym at
      ∙ (ap (slice_get nfa) (sym (kept_alone n has)) ∙ is_split) in cc

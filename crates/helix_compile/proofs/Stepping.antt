-- Where a character leads from one state.
use Rattle.std.proofs.Common.{◌≡◌, ◌⊎◌, ◌↔◌, inl, inr, ℕ, zero, suc, ◌+◌, ◌<◌, ◌≤◌, true, false, Option, Some, None, Result, Ok, Err, OnOk, List, [], ◌∷◌, ◌++◌, take, length, get_or, slice_get, Contains, ap, refl, sym, ◌∙◌, subst}
use Rattle.helix_base.specs.Ranges.{in_ranges}
use Rattle.helix_compile.specs.declared.nfa.State.{State}
use Rattle.helix_compile.specs.declared.nfa.State.TheVariants.{Accept, AcceptAll, Fail, Read, Split}
use Rattle.helix_compile.specs.Inner.Nfa.{GoesOn, NfaAcceptsIn, NfaAccepts}
use Rattle.helix_compile.specs.Inner.Subsets.{SomeAccepts, AcceptTheSame, LeadsTo, HasNoSplit, IsReadAlike}
use Rattle.std.proofs.lemmas.List.{take_all}
use Rattle.helix_compile.proofs.Members.{reads_added, reads_next, reads_none}

abbrev IsNoSplit : Option State → Type 0
IsNoSplit at = (one other : ℕ) → at ≡ Some (Split one other) → ⊥

abbrev IsNotAll : Option State → Type 0
IsNotAll at = at ≡ Some AcceptAll → ⊥

abbrev IsNoRead : Option State → Type 0
IsNoRead at = (ranges : List (ℕ × ℕ)) (next : ℕ) → at ≡ Some (Read ranges next) → ⊥

unread : (From : ℕ → List ℕ → Type 0) (at : Option State) (code : ℕ) (word : List ℕ) → IsNotAll at → IsNoRead at
    → IsNoSplit at → GoesOn From at (code ∷ word) → ⊥
unread From None code word not_all no_read no_split reads = reads
unread From (Some Accept) code word not_all no_read no_split reads = cc
unread From (Some AcceptAll) code word not_all no_read no_split reads = not_all refl
unread From (Some Fail) code word not_all no_read no_split reads = reads
unread From (Some (Read ranges next)) code word not_all no_read no_split reads = no_read ranges next refl
unread From (Some (Split one other)) code word not_all no_read no_split reads = no_split one other refl

alike : (From : ℕ → List ℕ → Type 0) (at : Option State) (code other : ℕ) (word : List ℕ)
    → ((ranges : List (ℕ × ℕ)) (next : ℕ) → at ≡ Some (Read ranges next)
    → in_ranges ranges other ≡ in_ranges ranges code) → IsNoSplit at
    → GoesOn From at (code ∷ word) → GoesOn From at (other ∷ word)
alike From None code other word same no_split reads = reads
alike From (Some Accept) code other word same no_split reads = cc
alike From (Some AcceptAll) code other word same no_split reads = tt
alike From (Some Fail) code other word same no_split reads = reads
alike From (Some (Read ranges next)) code other word same no_split (listed, on) = (same ranges next refl ∙ listed, on)
alike From (Some (Split one two)) code other word same no_split reads = absurd (no_split one two refl)

module _ (nfa : List State) where
  module _ (number code : ℕ) (word : List ℕ) where
    pub none_read : IsNotAll (slice_get nfa number) → IsNoRead (slice_get nfa number) → IsNoSplit (slice_get nfa number)
        → NfaAccepts nfa number (code ∷ word) → ⊥
    none_read not_all no_read no_split (zero, reads) = reads
    none_read not_all no_read no_split (suc steps, reads) =
        unread (λ next rest. NfaAcceptsIn nfa steps next rest) (slice_get nfa number) code word not_all no_read no_split
        reads

    module _ (ranges : List (ℕ × ℕ)) (next : ℕ) (at : slice_get nfa number ≡ Some (Read ranges next)) where
      pub read_on : NfaAccepts nfa number (code ∷ word) → (in_ranges ranges code ≡ true) × NfaAccepts nfa next word
      read_on (zero, reads) = absurd reads
      read_on (suc steps, reads) = let (listed, on) =
          does steps (subst (λ o. GoesOn (λ n r. NfaAcceptsIn nfa steps n r) o (code ∷ word)) at reads) in (
            listed,
            (steps, on),
          )
        where
          does : (steps : ℕ) → GoesOn (λ n r. NfaAcceptsIn nfa steps n r) (Some (Read ranges next)) (code ∷ word)
              → (in_ranges ranges code ≡ true) × NfaAcceptsIn nfa steps next word
          does steps h = h

      pub read_here : in_ranges ranges code ≡ true → NfaAccepts nfa next word → NfaAccepts nfa number (code ∷ word)
      read_here listed (steps, reads) =
          (suc steps, subst (λ o. GoesOn (λ n r. NfaAcceptsIn nfa steps n r) o (code ∷ word)) (sym at) (listed, reads))

  -- what is noted for one state
  abbrev pub Notes : ℕ → ℕ → List ℕ → List ℕ → Type 0
  Notes number code seen new = (word : List ℕ) → SomeAccepts nfa new word
      ↔ (SomeAccepts nfa seen word ⊎ NfaAccepts nfa number (code ∷ word))

  pub notes_none : (number code : ℕ) (seen : List ℕ) → ((word : List ℕ) → NfaAccepts nfa number (code ∷ word) → ⊥)
      → Notes number code seen seen
  notes_none number code seen none word = ((λ h. inl h), from)
    where
      from : SomeAccepts nfa seen word ⊎ NfaAccepts nfa number (code ∷ word) → SomeAccepts nfa seen word
      from (inl h) = h
      from (inr h) = absurd (none word h)

  pub notes_unlisted : (number code : ℕ) (seen : List ℕ) (ranges : List (ℕ × ℕ)) (next : ℕ)
      → slice_get nfa number ≡ Some (Read ranges next) → in_ranges ranges code ≡ false
      → Notes number code seen seen
  notes_unlisted number code seen ranges next at unlisted =
      notes_none number code seen (λ word reads. let e = (read_on number code word ranges next at reads).0 in cc)

  module _ (number code : ℕ) (seen new : List ℕ) (ranges : List (ℕ × ℕ)) (next : ℕ)
      (at : slice_get nfa number ≡ Some (Read ranges next)) (listed : in_ranges ranges code ≡ true) where
    notes_added : Contains new next → (new ≡ seen) ⊎ (new ≡ seen ++ next ∷ []) → Notes number code seen new
    notes_added has grows word = let added =
        reads_added nfa seen new next word grows has in ((λ h. to (added.0 h)), (λ h. added.1 (from h)))
      where
        to : SomeAccepts nfa seen word ⊎ NfaAccepts nfa next word → SomeAccepts nfa seen word
            ⊎ NfaAccepts nfa number (code ∷ word)
        to (inl h) = inl h
        to (inr h) = inr (read_here number code word ranges next at listed h)

        from : SomeAccepts nfa seen word ⊎ NfaAccepts nfa number (code ∷ word) → SomeAccepts nfa seen word
            ⊎ NfaAccepts nfa next word
        from (inl h) = inl h
        from (inr h) = inr (read_on number code word ranges next at h).1

    pub notes_next : {E : Type 0} (r : Result (Unit {0}) E) → OnOk r (Contains new next)
        → OnOk r ((new ≡ seen) ⊎ (new ≡ seen ++ next ∷ [])) → OnOk r (Notes number code seen new)
    notes_next (Err y) has grows = tt
    notes_next (Ok x) has grows = notes_added has grows

  -- a state that accepts every word
  pub notes_all : {E : Type 0} (number code : ℕ) (seen new : List ℕ) (r : Result (Unit {0}) E)
      → slice_get nfa number ≡ Some AcceptAll
      → OnOk r (Contains new number) → OnOk r ((new ≡ seen) ⊎ (new ≡ seen ++ number ∷ []))
      → OnOk r (Notes number code seen new)
  notes_all number code seen new (Err y) at has grows = tt
  notes_all number code seen new (Ok x) at has grows = λ word. let added =
      reads_added nfa seen new number word grows has in
      ((λ h. to word (added.0 h)), (λ h. added.1 (from word h)))
    where
      every : (word : List ℕ) → NfaAccepts nfa number word
      every word = (1, subst (λ o. GoesOn (λ next rest. NfaAcceptsIn nfa 0 next rest) o word) (sym at) tt)

      to : (word : List ℕ) → SomeAccepts nfa seen word ⊎ NfaAccepts nfa number word → SomeAccepts nfa seen word
          ⊎ NfaAccepts nfa number (code ∷ word)
      to word (inl h) = inl h
      to word (inr h) = inr (every (code ∷ word))

      from : (word : List ℕ) → SomeAccepts nfa seen word ⊎ NfaAccepts nfa number (code ∷ word)
          → SomeAccepts nfa seen word ⊎ NfaAccepts nfa number word
      from word (inl h) = inl h
      from word (inr h) = inr (every word)

  -- before the first state of the set, after one more, and after all of them
  pub leads_none : (set seen : List ℕ) (code : ℕ) → seen ≡ [] → LeadsTo nfa (take 0 set) code seen
  leads_none set seen code empty word = (
    (λ h. absurd (reads_none nfa seen word (ap length empty) h)),
    (λ h. absurd (reads_none nfa (take 0 set) (code ∷ word) (none set) h)),
  )
    where
      none : (l : List ℕ) → length (take 0 l) ≡ 0
      none [] = refl
      none (x ∷ l) = refl

  pub leads_more : (set seen new : List ℕ) (at d code : ℕ) → at < length set → LeadsTo nfa (take at set) code seen
      → Notes (get_or set at d) code seen new
      → LeadsTo nfa (take (at + 1) set) code new
  leads_more set seen new at d code within leads notes word =
      let next = reads_next nfa set at d (code ∷ word) within in (
        (λ h. next.1 (to (notes word).0 h)),
        (λ h. (notes word).1 (from (next.0 h))),
      )
    where
      to : (SomeAccepts nfa new word → SomeAccepts nfa seen word ⊎ NfaAccepts nfa (get_or set at d) (code ∷ word))
          → SomeAccepts nfa new word
          → SomeAccepts nfa (take at set) (code ∷ word) ⊎ NfaAccepts nfa (get_or set at d) (code ∷ word)
      to f h = elim (f h) [ inl old ↦ inl ((leads word).0 old) | inr new ↦ inr new ]

      from : SomeAccepts nfa (take at set) (code ∷ word) ⊎ NfaAccepts nfa (get_or set at d) (code ∷ word)
          → SomeAccepts nfa seen word ⊎ NfaAccepts nfa (get_or set at d) (code ∷ word)
      from (inl h) = inl ((leads word).1 h)
      from (inr h) = inr h

  -- codes that are read alike lead to the same set
  pub leads_alike : (set next : List ℕ) (code other : ℕ) → HasNoSplit nfa set
      → ((number : ℕ) → Contains set number → IsReadAlike nfa number code other)
      → LeadsTo nfa set code next → LeadsTo nfa set other next
  leads_alike set next code other no_split same leads word = (
    (λ h. let (n, has, reads) = (leads word).0 h in (n, has, on n code other has (same n has) reads)),
    (λ h. let (n, has, reads) =
        h in (leads word).1 (n, has, on n other code has (λ ranges to at. sym (same n has ranges to at)) reads)),
  )
    where
      on : (n a b : ℕ) → Contains set n → IsReadAlike nfa n a b → NfaAccepts nfa n (a ∷ word)
          → NfaAccepts nfa n (b ∷ word)
      on n a b has like (zero, reads) = absurd reads
      on n a b has like (suc steps, reads) = (
        suc steps,
        alike (λ next rest. NfaAcceptsIn nfa steps next rest) (slice_get nfa n) a b word like
            (λ one two at. no_split n one two has at) reads,
      )

  pub leads_all : {E : Type 0} (set seen found : List ℕ) (at code : ℕ) (r : Result (Unit {0}) E) → length set ≤ at
      → LeadsTo nfa (take at set) code seen
      → OnOk r (AcceptTheSame nfa seen found) → OnOk r (LeadsTo nfa set code found)
  leads_all set seen found at code (Err y) all leads same = tt
  leads_all set seen found at code (Ok x) all leads same = λ word.
      let whole : LeadsTo nfa set code seen = subst (λ l. LeadsTo nfa l code seen) (take_all at set all) leads in
      ((λ h. (whole word).0 ((same word).1 h)), (λ h. (same word).0 ((whole word).1 h)))

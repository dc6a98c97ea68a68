-- How states that lead through languages are put together.
use Rattle.std.proofs.Common.{◌≡◌, ℕ, ◌≤◌, zero, suc, ◌⊎◌, inl, inr, Some, List, [], ◌∷◌, ◌++◌, slice_get, refl, sym, ap, ◌∙◌, subst, arith, append_assoc}
use Rattle.helix_expr.specs.Matching.{IsOneOf}
use Rattle.helix_compile.specs.declared.nfa.State.{State}
use Rattle.helix_compile.specs.declared.nfa.State.TheVariants.{Fail, Read, Split}
use Rattle.helix_compile.specs.Inner.Nfa.{GoesOn, NfaAcceptsIn, NfaAccepts, LeadsThrough}

-- the words that are joined from one of each language
abbrev pub Both : (List ℕ → Type 0) → (List ℕ → Type 0) → List ℕ → Type 0
Both L M word = (prefix : List ℕ) × (rest : List ℕ) × (word ≡ prefix ++ rest) × L prefix × M rest

module _ (nfa : List State) where
  -- nothing is read on the way to the same state
  pub leads_nothing : (state : ℕ) → LeadsThrough nfa state (λ w. w ≡ []) state
  leads_nothing state = record {
    splits = λ steps word reads. ([], word, steps, refl, refl, omega arith, reads);
    joins = λ prefix rest empty reads. subst (λ f. NfaAccepts nfa state (f ++ rest)) (sym empty) reads;
  }

  -- one language after the other
  pub leads_both : (a b c : ℕ) (L M : List ℕ → Type 0) → LeadsThrough nfa a L b → LeadsThrough nfa b M c
      → LeadsThrough nfa a (Both L M) c
  leads_both a b c L M first second = record {
    splits = λ steps word reads.
        let (prefix, later, fewer, is, in_first, few, on) = first.splits steps word reads in
        let (middle, rest, least, goes, in_second, less, ends) = second.splits fewer later on in (
          prefix ++ middle,
          rest,
          least,
          is ∙ (ap (λ l. prefix ++ l) goes ∙ sym (append_assoc prefix middle rest)),
          (prefix, middle, refl, in_first, in_second),
          omega (arith, few, less),
          ends,
        );
    joins = λ both rest split reads.
        let (prefix, middle, is, in_first, in_second) = split in
        subst (λ l. NfaAccepts nfa a l) (sym (ap (λ l. l ++ rest) is ∙ append_assoc prefix middle rest))
        (first.joins prefix (middle ++ rest) in_first (second.joins middle rest in_second reads));
  }

  -- the same words
  pub leads_same : (a b : ℕ) (L M : List ℕ → Type 0) → ((w : List ℕ) → L w → M w) → ((w : List ℕ) → M w → L w)
      → LeadsThrough nfa a L b → LeadsThrough nfa a M b
  leads_same a b L M to from leads = record {
    splits = λ steps word reads. let (prefix, rest, fewer, is, has, few, on) =
        leads.splits steps word reads in (prefix, rest, fewer, is, to prefix has, few, on);
    joins = λ prefix rest has reads. leads.joins prefix rest (from prefix has) reads;
  }

  module _ (state : ℕ) where
    -- a state at which no word goes on
    pub leads_nowhere : (next : ℕ) → slice_get nfa state ≡ Some Fail → LeadsThrough nfa state (λ w. ⊥) next
    leads_nowhere next at = record {
      splits = λ steps word reads. absurd (stops steps word reads);
      joins = λ prefix rest no reads. absurd no;
    }
      where
        stops : (steps : ℕ) (word : List ℕ) → NfaAcceptsIn nfa steps state word → ⊥
        stops zero word reads = reads
        stops (suc steps) word reads =
            subst (λ o. GoesOn (λ next rest. NfaAcceptsIn nfa steps next rest) o word) at reads

    -- a state that reads a character
    pub leads_read : (ranges : List (ℕ × ℕ)) (next : ℕ) → slice_get nfa state ≡ Some (Read ranges next)
        → LeadsThrough nfa state (IsOneOf ranges) next
    leads_read ranges next at = record { splits = splits; joins = joins }
      where
        Split : ℕ → List ℕ → Type 0
        Split steps word = (prefix : List ℕ) × (rest : List ℕ) × (fewer : ℕ) × (word ≡ prefix ++ rest)
            × IsOneOf ranges prefix × (fewer ≤ steps) × NfaAcceptsIn nfa fewer next rest

        by : (steps : ℕ) (word : List ℕ) → GoesOn (λ n r. NfaAcceptsIn nfa steps n r) (Some (Read ranges next)) word
            → (prefix : List ℕ) × (rest : List ℕ) × (fewer : ℕ) × (word ≡ prefix ++ rest) × IsOneOf ranges prefix
            × (fewer ≤ suc steps) × NfaAcceptsIn nfa fewer next rest
        by steps [] reads = absurd reads
        by steps (code ∷ word) (in_ranges, on) = (code ∷ [], word, steps, refl, in_ranges, omega arith, on)

        splits : (steps : ℕ) (word : List ℕ) → NfaAcceptsIn nfa steps state word
            → (prefix : List ℕ) × (rest : List ℕ) × (fewer : ℕ) × (word ≡ prefix ++ rest) × IsOneOf ranges prefix
            × (fewer ≤ steps) × NfaAcceptsIn nfa fewer next rest
        splits zero word reads = absurd reads
        splits (suc steps) word reads =
            by steps word (subst (λ o. GoesOn (λ n r. NfaAcceptsIn nfa steps n r) o word) at reads)

        joins : (prefix rest : List ℕ) → IsOneOf ranges prefix → NfaAccepts nfa next rest
            → NfaAccepts nfa state (prefix ++ rest)
        joins [] rest one reads = absurd one
        joins (code ∷ []) rest one (steps, reads) =
            (suc steps, subst (λ o. GoesOn (λ n r. NfaAcceptsIn nfa steps n r) o (code ∷ rest)) (sym at) (one, reads))
        joins (code ∷ other ∷ more) rest one reads = absurd one

    module _ (one other : ℕ) (at : slice_get nfa state ≡ Some (Split one other)) where
      -- what a split reads
      pub split_reads : (steps : ℕ) (word : List ℕ) → NfaAcceptsIn nfa (suc steps) state word
          → NfaAcceptsIn nfa steps one word ⊎ NfaAcceptsIn nfa steps other word
      split_reads steps word reads = subst (λ o. GoesOn (λ n r. NfaAcceptsIn nfa steps n r) o word) at reads

      pub split_first : (word : List ℕ) → NfaAccepts nfa one word → NfaAccepts nfa state word
      split_first word (steps, reads) =
          (suc steps, subst (λ o. GoesOn (λ n r. NfaAcceptsIn nfa steps n r) o word) (sym at) (inl reads))

      pub split_second : (word : List ℕ) → NfaAccepts nfa other word → NfaAccepts nfa state word
      split_second word (steps, reads) =
          (suc steps, subst (λ o. GoesOn (λ n r. NfaAcceptsIn nfa steps n r) o word) (sym at) (inr reads))

      -- a state from which a word of either language leads on
      pub leads_either : (next : ℕ) (L M : List ℕ → Type 0) → LeadsThrough nfa one L next
          → LeadsThrough nfa other M next → LeadsThrough nfa state (λ w. L w ⊎ M w) next
      leads_either next L M first second = record { splits = splits; joins = joins }
        where
          splits : (steps : ℕ) (word : List ℕ) → NfaAcceptsIn nfa steps state word
              → (prefix : List ℕ) × (rest : List ℕ) × (fewer : ℕ) × (word ≡ prefix ++ rest) × (L prefix ⊎ M prefix)
              × (fewer ≤ steps) × NfaAcceptsIn nfa fewer next rest
          splits zero word reads = absurd reads
          splits (suc steps) word reads = elim (split_reads steps word reads) [
            | inl goes ↦ (let (prefix, rest, fewer, is, has, few, on) =
                first.splits steps word goes in (prefix, rest, fewer, is, inl has, omega (arith, few), on))
            | inr goes ↦ (let (prefix, rest, fewer, is, has, few, on) =
                second.splits steps word goes in (prefix, rest, fewer, is, inr has, omega (arith, few), on))
          ]

          joins : (prefix rest : List ℕ) → (L prefix ⊎ M prefix) → NfaAccepts nfa next rest
              → NfaAccepts nfa state (prefix ++ rest)
          joins prefix rest (inl has) reads = split_first (prefix ++ rest) (first.joins prefix rest has reads)
          joins prefix rest (inr has) reads = split_second (prefix ++ rest) (second.joins prefix rest has reads)

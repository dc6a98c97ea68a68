-- Up to which codes ranges and states answer alike.
use Rattle.std.proofs.Common.{◌≡◌, ◌⊎◌, inl, inr, ℕ, ◌+◌, ◌<◌, ◌≤◌, ◌||◌, List, [], ◌∷◌, ◌++◌, take, length, get_or, Contains, ap, sym, ◌∙◌, subst}
use Rattle.std.proofs.lemmas.List.{take_more, take_all}
use Rattle.std.proofs.lemmas.List.Folds.{list_any-append}
use Rattle.std.proofs.lemmas.List.Elements.{Contains-push_cases}
use Rattle.helix_base.specs.Alphabet.{is_in_range}
use Rattle.helix_base.specs.Ranges.{in_ranges}
use Rattle.helix_compile.specs.declared.nfa.State.{State}
use Rattle.helix_compile.specs.Inner.Subsets.{IsReadAlike}

-- one more range
pub listed_more : (ranges : List (ℕ × ℕ)) (at : ℕ) (d : ℕ × ℕ) (code other : ℕ) → at < length ranges
    → in_ranges (take at ranges) other ≡ in_ranges (take at ranges) code
    → is_in_range other (get_or ranges at d) ≡ is_in_range code (get_or ranges at d)
    → in_ranges (take (at + 1) ranges) other ≡ in_ranges (take (at + 1) ranges) code
listed_more ranges at d code other within same here =
    let is = take_more ranges at d within in
    split other is ∙ (ap (λ b. b || in_ranges (get_or ranges at d ∷ []) other) same
    ∙ (ap (λ b. in_ranges (take at ranges) code || (b || in_ranges [] code)) here ∙ sym (split code is)))
  where
    split : (c : ℕ) → take (at + 1) ranges ≡ take at ranges ++ get_or ranges at d ∷ []
        → in_ranges (take (at + 1) ranges) c ≡ (in_ranges (take at ranges) c || in_ranges (get_or ranges at d ∷ []) c)
    split c is = ap (λ l. in_ranges l c) is ∙ list_any-append (is_in_range c) (take at ranges) (get_or ranges at d ∷ [])

-- one more state
pub alike_more : (nfa : List State) (set : List ℕ) (at d code other : ℕ) → at < length set
    → ((number : ℕ) → Contains (take at set) number → IsReadAlike nfa number code other)
    → IsReadAlike nfa (get_or set at d) code other → (number : ℕ) → Contains (take (at + 1) set) number
    → IsReadAlike nfa number code other
alike_more nfa set at d code other within same here number has =
    by (Contains-push_cases (take at set) (get_or set at d) number
    (subst (λ l. Contains l number) (take_more set at d within) has))
  where
    by : Contains (take at set) number ⊎ (get_or set at d ≡ number) → IsReadAlike nfa number code other
    by (inl old) = same number old
    by (inr new) = subst (λ n. IsReadAlike nfa n code other) new here

pub alike_all : (nfa : List State) (set : List ℕ) (at code other : ℕ) → length set ≤ at
    → ((number : ℕ) → Contains (take at set) number → IsReadAlike nfa number code other)
    → (number : ℕ) → Contains set number → IsReadAlike nfa number code other
alike_all nfa set at code other all same number has =
    same number (subst (λ l. Contains l number) (sym (take_all at set all)) has)

-- What is seen where a split is visited.
use Rattle.std.proofs.Common.{◌≡◌, ◌⊎◌, inl, inr, ℕ, Option, Some, Result, Ok, Err, OnOk, List, [], ◌∷◌, ◌++◌, Contains, sym, subst}
use Rattle.helix_compile.specs.declared.nfa.State.{State}
use Rattle.helix_compile.specs.declared.nfa.State.TheVariants.{Split}
use Rattle.helix_compile.specs.Inner.Closure.{Visits}
use Rattle.helix_compile.proofs.Members.{still_there, added_cases, added_more}

module _ (at : Option State) (number : ℕ) (seen found : List ℕ) where
  -- a split
  module _ (one other : ℕ) (first second : List ℕ) (is : at ≡ Some (Split one other)) (has_one : Contains first one)
      (grows : (first ≡ seen) ⊎ (first ≡ seen ++ one ∷ [])) where
    sides : Contains second other → (second ≡ first) ⊎ (second ≡ first ++ other ∷ []) → (at : Option State)
        → at ≡ Some (Split one other) → Visits at number seen second found found
    sides has_other more at is = subst (λ o. Visits o number seen second found found) (sym is) (record {
      extends = λ k n there. still_there first second other k n more (still_there seen first one k n grows there);
      sides = side;
      only_sides = λ n has. elim (added_cases first second other n more has) [
        | inl old ↦ old_side n old
        | inr new ↦ inr (inr new)
      ];
      keeps = λ n has. has;
      rest = λ rest. absurd rest;
      only_rest = λ n has. inl has;
    })
      where
        side : (n : ℕ) → (n ≡ one) ⊎ (n ≡ other) → Contains second n
        side n (inl e) = subst (λ m. Contains second m) (sym e) (added_more first second other one more has_one)
        side n (inr e) = subst (λ m. Contains second m) (sym e) has_other

        old_side : (n : ℕ) → Contains first n → Contains seen n ⊎ ((n ≡ one) ⊎ (n ≡ other))
        old_side n has = elim (added_cases seen first one n grows has) [ inl old ↦ inl old | inr new ↦ inr (inl new) ]

    pub visits_split : {E : Type 0} (r : Result (Unit {0}) E) → OnOk r (Contains second other)
        → OnOk r ((second ≡ first) ⊎ (second ≡ first ++ other ∷ [])) → OnOk r (Visits at number seen second found found)
    visits_split (Err y) has more = tt
    visits_split (Ok x) has more = sides has more at is

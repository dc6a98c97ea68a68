-- Ranges that are sorted are in ascending order.
use Rattle.std.proofs.Common.{◌≡◌, ℕ, suc, ◌+◌, ◌≤◌, ◌<◌, inl, inr, Bool, true, false, nat_lt, List, [], ◌∷◌, length, get_or, sym, ◌∙◌, ap, arith}
use Rattle.std.proofs.lemmas.Bool.{cases_lt, lt-ltb, cond-true}
use Rattle.std.specs.List.Sorted.{IsSortedBy}
use Rattle.std.specs.Ordering.{nat_cmp, is_lt, ordering_then}
use Rattle.std.specs.declared.cmp.Ordering.TheVariants.{Less}
use Rattle.helix_regex.specs.Inner.Sets.{Ascending}

abbrev Before : ℕ × ℕ → ℕ × ℕ → Bool
Before x y = is_lt (ordering_then (nat_cmp x.0 y.0) (nat_cmp x.1 y.1))

less : (a b : ℕ) → a < b → nat_cmp a b ≡ Less
less a b lt = cond-true (nat_lt a b) _ _ (lt-ltb a b lt)

in_order : (x y : ℕ × ℕ) → Before y x ≡ false → x.0 ≤ y.0
in_order x y e = elim (cases_lt y.0 x.0) [
  | inl lt ↦ let f : Before y x ≡ true = ap (λ o. is_lt (ordering_then o (nat_cmp y.1 x.1))) (less y.0 x.0 lt) in cc
  | inr le ↦ le
]

shifted : (k : ℕ) → suc k + 1 ≡ suc (k + 1)
shifted k = omega arith

sorted_tail : (x : ℕ × ℕ) (xs : List (ℕ × ℕ)) → IsSortedBy (λ a b. Before a b) (x ∷ xs) → (k : ℕ) (d : ℕ × ℕ)
    → k + 1 < length xs → Before (get_or xs (k + 1) d) (get_or xs k d) ≡ false
sorted_tail x xs h k d high =
    let e : Before (get_or (x ∷ xs) (suc k + 1) d) (get_or (x ∷ xs) (suc k) d)
    ≡ false = h (suc k) d (omega arith) (omega arith) in
    ap (λ i. Before (get_or (x ∷ xs) i d) (get_or xs k d)) (sym (shifted k)) ∙ e

pub ascending : (xs : List (ℕ × ℕ)) → IsSortedBy (λ x y. is_lt (ordering_then (nat_cmp x.0 y.0) (nat_cmp x.1 y.1))) xs
    → Ascending xs
ascending [] h = tt
ascending (x ∷ []) h = tt
ascending (x ∷ y ∷ xs) h = (
  in_order x y (h 0 x (omega arith) (omega arith)),
  ascending (y ∷ xs) (λ k d low high. sorted_tail x (y ∷ xs) h k d high),
)

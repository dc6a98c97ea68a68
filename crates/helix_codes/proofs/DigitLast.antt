-- Codes of n characters that pass a test, and one digit.
use Rattle.std.proofs.Common.{◌≡◌, ℕ, ◌+◌, ◌-◌, ◌≤◌, Bool, true, false, ◌&&◌, ◌==◌, nat_lt, if◌then◌else◌, inl, inr, List, ◌∷◌, drop, arith, refl, sym, ◌∙◌}
use Rattle.std.specs.List.{list_all}
use Rattle.std.proofs.lemmas.Bool.{cases_lt, cond-true, cond-false, lt-ltb, le-ltb, and_parts, and_left, and_right, eqb-true, eq-eqb}
use Rattle.helix_base.specs.Digits.{is_digit}
use Rattle.helix_codes.proofs.OneCharacter.{drop_below, drop_from, and_holds, and_fails, right_fails}

module _ (test : ℕ → Bool) (digits : (c : ℕ) → is_digit c ≡ true → test c ≡ true) (n : ℕ) where
  abbrev pub allows_at : ℕ → ℕ → Bool
  allows_at count c = if nat_lt count n then test c else ((count == n) && is_digit c)

  abbrev pub ends_shape : ℕ → List ℕ → Bool
  ends_shape count word = list_all test word && list_all is_digit (drop (n - count) word)

  module _ (count c : ℕ) (word : List ℕ) where
    pub at_most : allows_at count c ≡ true → count ≤ n
    at_most allowed = elim (cases_lt count n) [
      | inl below ↦ omega (arith, below)
      | inr above ↦ (let last = sym (cond-false (nat_lt count n) _ _ (le-ltb count n above)) ∙ allowed in
          let is : count ≡ n = eqb-true count n (and_parts (count == n) (is_digit c) last).0 in omega (arith, is))
    ]

    pub shape_on : allows_at count c ≡ true → ends_shape (count + 1) word ≡ ends_shape count (c ∷ word)
    shape_on allowed = elim (cases_lt count n) [
      | inl below ↦ (let passes : test c ≡ true =
          sym (cond-true (nat_lt count n) _ _ (lt-ltb count n below)) ∙ allowed in
          let rest = drop_below is_digit c word n count below in rw (passes, rest) refl)
      | inr above ↦ (let last = sym (cond-false (nat_lt count n) _ _ (le-ltb count n above)) ∙ allowed in
          let digit : is_digit c ≡ true = (and_parts (count == n) (is_digit c) last).1 in
          let passes : test c ≡ true = digits c digit in
          let rest = and_holds (is_digit c) _ _ (drop_from is_digit c word n count above) digit in
          rw (passes, rest) refl)
    ]

    pub shape_off : count ≤ n → allows_at count c ≡ false → ends_shape count (c ∷ word) ≡ false
    shape_off within refused = elim (cases_lt count n) [
      | inl below ↦ (let fails : test c ≡ false =
          sym (cond-true (nat_lt count n) _ _ (lt-ltb count n below)) ∙ refused in
          and_left (test c && list_all test word) _ (and_left (test c) (list_all test word) fails))
      | inr above ↦ (let last = sym (cond-false (nat_lt count n) _ _ (le-ltb count n above)) ∙ refused in
          let is : (count == n) ≡ true = eq-eqb count n (omega (arith, above, within)) in
          let fails : is_digit c ≡ false = right_fails (count == n) (is_digit c) is last in
          and_right (test c && list_all test word) _
          (and_fails (is_digit c) _ _ (drop_from is_digit c word n count above) fails))
    ]

-- A prefix of an ISIN with one character more.
use Rattle.std.proofs.Common.{◌≡◌, ℕ, suc, ◌+◌, ◌-◌, ◌/◌, ◌%◌, ◌<◌, ◌≤◌, Bool, true, false, not, ◌&&◌, ◌==◌, nat_lt, if◌then◌else◌, inl, inr, List, [], ◌∷◌, ◌++◌, drop, take, length, reverse, ap, ap₂, add_comm, arith, refl, sym, ◌∙◌}
use Rattle.std.specs.List.{list_all, flat_map}
use Rattle.std.proofs.lemmas.Bool.{cases_lt, cond-true, cond-false, lt-ltb, le-ltb, and_parts, or_right, eqb-true, eq-eqb}
use Rattle.helix_base.specs.Digits.{is_digit}
use Rattle.helix_values.specs.Codes.{is_capital, is_capital_or_digit, value_of, digits_of, doubled_sum}
use Rattle.helix_codes.specs.declared.prefix.Prefix.{Prefix}
use Rattle.helix_codes.specs.Inner.Completed.{completes_isin, ends_isin_shape, isin_sum, is_odd}
use Rattle.helix_codes.specs.Inner.Positions.{isin_allows}
use Rattle.helix_codes.specs.Inner.PrefixLaws.{prefix_of}
use Rattle.helix_codes.proofs.OneCharacter.{length_on, too_long, drop_below, drop_from, take_below, take_from, same_three, first_false, second_false, third_false, right_fails, and_holds, and_fails, mod_on}
use Rattle.helix_codes.proofs.Parity.{odd_after}
use Rattle.helix_codes.proofs.DoubledSums.{doubled_sum-reverse}

not_not : (b : Bool) → not (not b) ≡ b
not_not true = refl
not_not false = refl

-- a digit turns the number of digits that follow from odd to even or back, a letter doesn't
odd_by : (digit : Bool) (v w x : ℕ) (digits : List ℕ)
    → is_odd (length ((if digit then v ∷ [] else w ∷ x ∷ []) ++ digits))
    ≡ (if digit then not (is_odd (length digits)) else is_odd (length digits))
odd_by true v w x digits = odd_after (length digits) (suc (length digits)) (omega arith)
odd_by false v w x digits = odd_after (suc (length digits)) (suc (suc (length digits))) (omega arith)
    ∙ (ap not (odd_after (length digits) (suc (length digits)) (omega arith)) ∙ not_not (is_odd (length digits)))

-- the last digit of the sum, from the prefix on and from the longer one on
sum_by : (digit odd : Bool) (sum_even sum_odd rest : ℕ) (added : Bool → ℕ)
    → ((if odd then ((if digit then sum_even else sum_odd) + added true) % 10
    else ((if digit then sum_odd else sum_even) + added false) % 10) + rest) % 10
    ≡ ((if (if digit then not odd else odd) then sum_odd else sum_even) + (added odd + rest)) % 10
sum_by true true sum_even sum_odd rest added = mod_on sum_even (added true) rest
sum_by true false sum_even sum_odd rest added = mod_on sum_odd (added false) rest
sum_by false true sum_even sum_odd rest added = mod_on sum_odd (added true) rest
sum_by false false sum_even sum_odd rest added = mod_on sum_even (added false) rest

-- a letter first, or a letter or a digit, or a digit last
allowed_first : (count c : ℕ) → count < 2 → isin_allows count c ≡ is_capital c
allowed_first count c below = cond-true (nat_lt count 2) _ _ (lt-ltb count 2 below)

allowed_within : (count c : ℕ) → 2 ≤ count → count < 11 → isin_allows count c ≡ is_capital_or_digit c
allowed_within count c above below = cond-false (nat_lt count 2) _ _ (le-ltb count 2 above)
    ∙ cond-true (nat_lt count 11) _ _ (lt-ltb count 11 below)

allowed_last : (count c : ℕ) → 11 ≤ count → isin_allows count c ≡ ((count == 11) && is_digit c)
allowed_last count c above = cond-false (nat_lt count 2) _ _ (le-ltb count 2 (omega (arith, above)))
    ∙ cond-false (nat_lt count 11) _ _ (le-ltb count 11 above)

module _ (count c : ℕ) (word : List ℕ) where
  below_12 : isin_allows count c ≡ true → count < 12
  below_12 allowed = elim (cases_lt count 11) [
    | inl below ↦ omega (arith, below)
    | inr above ↦ (let last = sym (allowed_last count c above) ∙ allowed in
        let is : count ≡ 11 = eqb-true count 11 (and_parts (count == 11) (is_digit c) last).0 in omega (arith, is))
  ]

  abbrev letters : ℕ → List ℕ → Bool
  letters n rest = list_all is_capital (take (2 - n) rest)

  abbrev all : ℕ → List ℕ → Bool
  all n rest = list_all is_capital_or_digit (drop (2 - n) rest)

  abbrev last : ℕ → List ℕ → Bool
  last n rest = list_all is_digit (drop (11 - n) rest)

  same_shape : letters count (c ∷ word) ≡ letters (count + 1) word → all count (c ∷ word) ≡ all (count + 1) word
      → last count (c ∷ word) ≡ last (count + 1) word
      → ends_isin_shape (count + 1) word ≡ ends_isin_shape count (c ∷ word)
  same_shape first second third = sym (same_three _ _ _ _ _ _ first second third)

  shape_on : isin_allows count c ≡ true → ends_isin_shape (count + 1) word ≡ ends_isin_shape count (c ∷ word)
  shape_on allowed = elim (cases_lt count 2) [
    | inl early ↦ (let capital = sym (allowed_first count c early) ∙ allowed in
        same_shape (and_holds _ _ _ (take_below is_capital c word 2 count early) capital)
        (drop_below is_capital_or_digit c word 2 count early)
        (drop_below is_digit c word 11 count (omega (arith, early))))
    | inr later ↦ elim (cases_lt count 11) [
      | inl below ↦ (let passes = sym (allowed_within count c later below) ∙ allowed in
          same_shape (take_from is_capital c word 2 count later)
          (and_holds _ _ _ (drop_from is_capital_or_digit c word 2 count later) passes)
          (drop_below is_digit c word 11 count below))
      | inr above ↦ (let parts =
          and_parts (count == 11) (is_digit c) (sym (allowed_last count c above) ∙ allowed) in
          same_shape (take_from is_capital c word 2 count later)
          (and_holds _ _ _ (drop_from is_capital_or_digit c word 2 count later)
          (or_right (is_capital c) (is_digit c) parts.1))
          (and_holds _ _ _ (drop_from is_digit c word 11 count above) parts.1))
    ]
  ]

  shape_off : count < 12 → isin_allows count c ≡ false → ends_isin_shape count (c ∷ word) ≡ false
  shape_off within refused = elim (cases_lt count 2) [
    | inl early ↦ first_false _ _ _ (and_fails _ _ _ (take_below is_capital c word 2 count early)
        (sym (allowed_first count c early) ∙ refused))
    | inr later ↦ elim (cases_lt count 11) [
      | inl below ↦ second_false _ _ _ (and_fails _ _ _ (drop_from is_capital_or_digit c word 2 count later)
          (sym (allowed_within count c later below) ∙ refused))
      | inr above ↦ third_false (letters count (c ∷ word)) (all count (c ∷ word)) _
          (and_fails _ _ _ (drop_from is_digit c word 11 count above)
          (right_fails (count == 11) (is_digit c) (eq-eqb count 11 (omega (arith, above, within)))
          (sym (allowed_last count c above) ∙ refused)))
    ]
  ]

module _ (p : Prefix) (c : ℕ) where
  -- what the character adds, the first or the second of its digits doubled
  abbrev added : Bool → ℕ
  added twice = doubled_sum twice (reverse (digits_of c))

  sum_on : (q : Prefix) → q.even ≡ ((if is_digit c then p.odd else p.even) + added false) % 10
      → q.odd ≡ ((if is_digit c then p.even else p.odd) + added true) % 10 → (digits : List ℕ)
      → isin_sum q digits % 10 ≡ isin_sum p (digits_of c ++ digits) % 10
  sum_on q is_even is_odd_sum digits =
      let o : Bool = is_odd (length digits) in
      let rest : ℕ = doubled_sum false (reverse digits) in
      ap₂ (λ even odd. ((if o then odd else even) + rest) % 10) is_even is_odd_sum
      ∙ (sum_by (is_digit c) o p.even p.odd rest added
      ∙ sym (ap₂ (λ b s. ((if b then p.odd else p.even) + s) % 10)
      (odd_by (is_digit c) (value_of c) (value_of c / 10) (value_of c % 10) digits)
      (doubled_sum-reverse (digits_of c) digits ∙ add_comm rest (added o))))

  pub isin_on : (even odd first second : ℕ) → isin_allows p.count c ≡ true
      → even ≡ (if is_digit c then p.odd else p.even) → odd ≡ (if is_digit c then p.even else p.odd)
      → first ≡ added false → second ≡ added true → (word : List ℕ)
      → completes_isin (prefix_of (p.count + 1) ((even + first) % 10) ((odd + second) % 10)) word
      ≡ completes_isin p (c ∷ word)
  isin_on even odd first second allowed is_even is_odd_sum is_first is_second word =
      let below : p.count < 12 = below_12 p.count c word allowed in
      let q : Prefix = prefix_of (p.count + 1) ((even + first) % 10) ((odd + second) % 10) in
      same_three _ _ _ _ _ _ (sym (length_on 12 p.count (length word) below)) (shape_on p.count c word allowed)
      (ap (λ n. n == 0) (sum_on q (ap₂ (λ m n. (m + n) % 10) is_even is_first)
      (ap₂ (λ m n. (m + n) % 10) is_odd_sum is_second) (flat_map digits_of word)))

  pub isin_off : isin_allows p.count c ≡ false → (word : List ℕ) → completes_isin p (c ∷ word) ≡ false
  isin_off refused word = elim (cases_lt p.count 12) [
    | inl below ↦ second_false _ _ _ (shape_off p.count c word below refused)
    | inr above ↦ first_false _ _ _ (too_long 12 p.count (length word) above)
  ]

-- The whole number that a text is.
use Rattle.std.proofs.Common.{◌≡◌, ◌↔◌, ℕ, zero, suc, ◌+◌, ◌*◌, ◌/◌, ◌^◌, ◌≤◌, inl, inr, List, ◌++◌, length, Bool, true, false, IsTrue, ℤ, pos, negsuc, ◌*ℤ◌, nat_abs, unsigned_abs, refl, sym, ◌∙◌, ap, subst, arith}
use Rattle.std.proofs.lemmas.Int.{ints, unsigned_abs-mul}
use Rattle.std.proofs.lemmas.Bool.{cases_lt}
use Rattle.std.proofs.Math.Nat.{mul-div_cancel}
use Rattle.helix_json.specs.Numbers.{digits_value, signed, IsUnits}
use Rattle.helix_json.specs.Inner.Pieces.{AreUnits}
use Rattle.helix_json.specs.Inner.DecimalLaws.{cancel}
use Rattle.helix_json.specs.declared.value.Json.{Number}
use Rattle.helix_references.specs.declared.whole.Whole.TheVariants as whole_number
use Rattle.helix_references.specs.Inner.Wholes.{AreWhole, AreUnitsOf, SaysWhole}

signed_size : (b : Bool) (n : ℕ) → nat_abs (signed b n) ≡ n
signed_size true zero = refl
signed_size true (suc n) = refl
signed_size false n = refl

one_size : (z : ℤ) → nat_abs z ≡ unsigned_abs z
one_size (pos n) = refl
one_size (negsuc n) = refl

size_times : (z : ℤ) (j : ℕ) → nat_abs (z *ℤ pos j) ≡ nat_abs z * j
size_times z j = one_size (z *ℤ pos j) ∙ (unsigned_abs-mul z (pos j) ∙ ap (λ s. s * j) (sym (one_size z)))

signed_times : (b : Bool) (k : ℕ) → signed b k *ℤ pos (10 ^ 15) ≡ signed b (k * 10 ^ 15)
signed_times true k = omega (arith, ints)
signed_times false k = omega (arith, ints)

times_same : (u v : ℤ) → u *ℤ pos (10 ^ 15) ≡ v *ℤ pos (10 ^ 15) → u ≡ v
times_same u v e = omega (arith, ints)

same_units : (value places exponent m n : ℕ) (lowers : Bool) → AreUnits value places lowers exponent m
    → AreUnits value places lowers exponent n → m ≡ n
same_units value places exponent m n true first second = cancel m n (places + exponent) (sym first ∙ second)
same_units value places exponent m n false first second = cancel m n places (sym first ∙ second)

module _ (codes text whole fraction exponent : List ℕ) (negative lowers : Bool) (same : codes ≡ text)
    (says_of : (units : ℤ) → IsUnits codes units ↔ AreUnitsOf negative whole fraction lowers exponent units) where
  says : (units : ℤ) → IsUnits text units ↔ AreUnitsOf negative whole fraction lowers exponent units
  says = let P : List ℕ → Type 0 =
      λ t. (units : ℤ) → IsUnits t units ↔ AreUnitsOf negative whole fraction lowers exponent units in
      subst P same says_of

  pub no_whole : (answer : Bool) → IsTrue answer ↔ AreWhole whole fraction lowers exponent → answer ≡ false
      → SaysWhole (Number text) whole_number.Not
  no_whole answer answer_is is_not n is =
      let parts = (says (n *ℤ pos (10 ^ 15))).0 is in
      let size_is : parts.0 ≡ nat_abs n * 10 ^ 15 =
      sym (signed_size negative parts.0) ∙ (ap nat_abs (sym parts.2) ∙ size_times n (10 ^ 15)) in
      let P : ℕ → Type 0 =
      λ m. AreUnits (digits_value (whole ++ fraction)) (length fraction) lowers (digits_value exponent) m in
      let is_true : answer ≡ true = answer_is.1 (nat_abs n, subst P size_is parts.1) in
      let both : true ≡ false = sym is_true ∙ is_not in cc

  module _ (answer : Bool) (answer_is : IsTrue answer ↔ AreWhole whole fraction lowers exponent)
      (is_whole : answer ≡ true)
    where
      the_whole : AreWhole whole fraction lowers exponent
      the_whole = answer_is.0 is_whole

      its_units : IsUnits text (signed negative the_whole.0 *ℤ pos (10 ^ 15))
      unfolding the_whole
      its_units = (says (signed negative the_whole.0 *ℤ pos (10 ^ 15))).1
          (the_whole.0 * 10 ^ 15, the_whole.1, signed_times negative the_whole.0)

      one_units : (u : ℤ) → IsUnits text u → u ≡ signed negative (the_whole.0 * 10 ^ 15)
      unfolding the_whole
      one_units u is =
          let parts = (says u).0 is in
          parts.2 ∙ ap (signed negative) (same_units (digits_value (whole ++ fraction)) (length fraction)
          (digits_value exponent) parts.0 (the_whole.0 * 10 ^ 15) lowers parts.1 the_whole.1)

      pub within : (units r : ℤ) (count : ℕ) → IsUnits text units → nat_abs units ≤ 10 ^ 35
          → count ≡ nat_abs units / 10 ^ 15 → r ≡ signed negative count
          → SaysWhole (Number text) (whole_number.Within r)
      within units r count is small count_is r_is =
          let k : ℕ = the_whole.0 in
          let size_is : nat_abs units ≡ the_whole.0 * 10 ^ 15 =
          ap nat_abs (one_units units is) ∙ signed_size negative (the_whole.0 * 10 ^ 15) in
          let count_same : count ≡ the_whole.0 =
          count_is ∙ (ap (λ s. s / 10 ^ 15) size_is ∙ mul-div_cancel the_whole.0 (omega arith)) in
          let r_same : r ≡ signed negative the_whole.0 = r_is ∙ ap (signed negative) count_same in
          let r_size : nat_abs r ≡ the_whole.0 = ap nat_abs r_same ∙ signed_size negative the_whole.0 in (
            subst (λ z. IsUnits text (z *ℤ pos (10 ^ 15))) (sym r_same) its_units,
            (λ m other. times_same m r (one_units (m *ℤ pos (10 ^ 15)) other
                ∙ (sym (signed_times negative the_whole.0) ∙ ap (λ z. z *ℤ pos (10 ^ 15)) (sym r_same)))),
            omega (arith, r_size, size_is, small),
          )

      pub beyond : ((units : ℤ) → nat_abs units ≤ 10 ^ 35 → ¬ (IsUnits text units))
          → SaysWhole (Number text) whole_number.Beyond
      beyond none = (
        signed negative the_whole.0,
        its_units,
        elim (cases_lt (10 ^ 20) (nat_abs (signed negative the_whole.0))) [
          | inl less ↦ less
          | inr not_less ↦ absurd (none (signed negative the_whole.0 *ℤ pos (10 ^ 15))
              (let size_is = size_times (signed negative the_whole.0) (10 ^ 15) in omega (arith, size_is)) its_units)
        ],
      )

-- Digits write a number.
use Rattle.std.proofs.Common.{◌≡◌, ℕ, zero, suc, ◌+◌, ◌-◌, ◌*◌, ◌/◌, ◌%◌, ◌^◌, ◌<◌, ◌≤◌, List, [], ◌∷◌, ◌++◌, length, refl, sym, ap, ◌∙◌, arith}
use Rattle.std.proofs.Math.Nat.{mod-eq_of_lt, mul-le-mul_right}
use Rattle.std.proofs.lemmas.Nat.{div-mul-add}
use Rattle.helix_base.specs.Digits.{AreDigits}
use Rattle.helix_json.specs.Inner.DecimalLaws.{pow_more}
use Rattle.helix_texts.specs.Texts.{last_digits}
use Rattle.helix_texts.proofs.DecimalTexts.{last_digits-zero}
use Rattle.helix_texts.proofs.FixedDigits.{last_digits-first}
use Rattle.helix_base.specs.Inner.DigitLaws.{digit_bounds}

-- what is added above the last digits leaves them
same_last : (width k n : ℕ) → last_digits width (k * 10 ^ width + n) ≡ last_digits width n
unfolding last_digits
same_last zero k n = refl
same_last (suc width) k n =
    let power : k * 10 ^ suc width ≡ k * 10 ^ width * 10 = ap (λ p. k * p) (ap (λ w. 10 ^ w) (omega arith)
    ∙ pow_more width) ∙ omega arith in
    let prefix : (k * 10 ^ suc width + n) / 10 ≡ k * 10 ^ width + n / 10 = omega (arith, power) in
    let last : (k * 10 ^ suc width + n) % 10 ≡ n % 10 = omega (arith, power) in
    ap (λ f. last_digits width f ++ (48 + (k * 10 ^ suc width + n) % 10) ∷ []) prefix
    ∙ (ap (λ l. last_digits width (k * 10 ^ width + n / 10) ++ (48 + l) ∷ []) last
    ∙ ap (λ l. l ++ (48 + n % 10) ∷ []) (same_last width k (n / 10)))

first_digit : (width d n : ℕ) → n < 10 ^ width → d < 10 → (d * 10 ^ width + n) / 10 ^ width % 10 ≡ d
first_digit width d n small digit = ap (λ q. q % 10) (div-mul-add d (10 ^ width) n small) ∙ mod-eq_of_lt digit

one_more : (width d n : ℕ) → n < 10 ^ width → d < 10 → d * 10 ^ width + n < 10 ^ suc width
one_more width d n small digit =
    let power : 10 ^ suc width ≡ 10 ^ width * 10 = ap (λ w. 10 ^ w) (omega arith) ∙ pow_more width in
    let most : d ≤ 9 = omega arith in
    omega (arith, power, mul-le-mul_right (10 ^ width) most)

pub digits_write : (ds : List ℕ) → AreDigits ds → (n : ℕ) × (n < 10 ^ length ds) × (ds ≡ last_digits (length ds) n)
digits_write [] digits = (0, omega arith, sym (last_digits-zero 0))
digits_write (d ∷ ds) digits =
    let rest = digits_write ds digits.1 in
    let bounds : (48 ≤ d) × (d ≤ 57) = digit_bounds d digits.0 in
    let first : 48 + ((d - 48) * 10 ^ length ds + rest.0) / 10 ^ length ds % 10 ≡ d = omega (
      arith,
      first_digit (length ds) (d - 48) rest.0 rest.1 (omega (arith, bounds.1)),
      bounds.0,
    ) in (
      (d - 48) * 10 ^ length ds + rest.0,
      one_more (length ds) (d - 48) rest.0 rest.1 (omega (arith, bounds.1)),
      ap (λ l. d ∷ l) (rest.2 ∙ sym (same_last (length ds) (d - 48) rest.0))
          ∙ (ap (λ c. c ∷ last_digits (length ds) ((d - 48) * 10 ^ length ds + rest.0)) (sym first)
          ∙ sym (last_digits-first (length ds) ((d - 48) * 10 ^ length ds + rest.0))),
    )

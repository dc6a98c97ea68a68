-- A prefix of a SEDOL with one character more.
use Rattle.std.proofs.Common.{◌≡◌, ℕ, ◌+◌, ◌*◌, ◌%◌, ◌<◌, ◌≤◌, true, false, not, ◌==◌, inl, inr, List, ◌∷◌, get_or, drop, length, map, ap, arith, refl, sym, ◌∙◌, drop-cons, add-one}
use Rattle.std.proofs.lemmas.Bool.{cases_lt, and_parts, and_from, or_right, leb-true, ne_eqb, or_from}
use Rattle.helix_base.specs.Digits.{is_digit}
use Rattle.helix_base.specs.Weights.{weighted_sum}
use Rattle.helix_values.specs.Codes.{is_sedol_character, is_capital, is_vowel, value_of, sedol_weights}
use Rattle.helix_codes.specs.declared.prefix.Prefix.{Prefix}
use Rattle.helix_codes.specs.Inner.Completed.{completes_sedol}
use Rattle.helix_codes.specs.Inner.Positions.{sedol_allows}
use Rattle.helix_codes.specs.Inner.PrefixLaws.{prefix_of}
use Rattle.helix_codes.proofs.OneCharacter.{length_on, too_long, same_three, first_false, second_false, mod_on}
use Rattle.helix_codes.proofs.DigitLast.{at_most, shape_on, shape_off}

no_vowel : (c : ℕ) → is_digit c ≡ true → is_vowel c ≡ false
no_vowel c digit = let low : c ≤ 57 = leb-true c 57 (and_parts _ _ digit).1 in
    or_from _ _ (or_from _ _ (or_from _ _ (or_from _ _ (ne_eqb c 65 (λ e. omega (arith, e, low)))
    (ne_eqb c 69 (λ e. omega (arith, e, low)))) (ne_eqb c 73 (λ e. omega (arith, e, low))))
    (ne_eqb c 79 (λ e. omega (arith, e, low)))) (ne_eqb c 85 (λ e. omega (arith, e, low)))

digits_pass : (c : ℕ) → is_digit c ≡ true → is_sedol_character c ≡ true
digits_pass c digit = and_from _ (not (is_vowel c)) (or_right (is_capital c) (is_digit c) digit)
    (ap not (no_vowel c digit))

-- the first product, and the rest
sum_on : (count c : ℕ) (word : List ℕ) → count < 7
    → weighted_sum (drop count sedol_weights) (map value_of (c ∷ word))
    ≡ get_or sedol_weights count 0 * value_of c + weighted_sum (drop (count + 1) sedol_weights) (map value_of word)
sum_on count c word below = rw (add-one, drop-cons sedol_weights count 0 below) refl

module _ (p : Prefix) (c : ℕ) where
  pub sedol_on : (product : ℕ) → sedol_allows p.count c ≡ true
      → product ≡ get_or sedol_weights p.count 0 * value_of c → (word : List ℕ)
      → completes_sedol (prefix_of (p.count + 1) ((p.even + product) % 10) ((p.even + product) % 10)) word
      ≡ completes_sedol p (c ∷ word)
  sedol_on product allowed is word =
      let below : p.count < 7 =
      (let most = at_most is_sedol_character digits_pass 6 p.count c word allowed in omega (arith, most)) in
      let rest : ℕ = weighted_sum (drop (p.count + 1) sedol_weights) (map value_of word) in
      let sum : (((p.even + product) % 10 + rest) % 10)
      ≡ ((p.even + weighted_sum (drop p.count sedol_weights) (map value_of (c ∷ word))) % 10) =
      mod_on p.even product rest
      ∙ ap (λ n. (p.even + n) % 10) (ap (λ n. n + rest) is ∙ sym (sum_on p.count c word below)) in
      same_three _ _ _ _ _ _ (sym (length_on 7 p.count (length word) below))
      (shape_on is_sedol_character digits_pass 6 p.count c word allowed) (ap (λ n. n == 0) sum)

  pub sedol_off : sedol_allows p.count c ≡ false → (word : List ℕ) → completes_sedol p (c ∷ word) ≡ false
  sedol_off refused word = elim (cases_lt p.count 7) [
    | inl below ↦ second_false _ _ _
        (shape_off is_sedol_character digits_pass 6 p.count c word (omega (arith, below)) refused)
    | inr above ↦ first_false _ _ _ (too_long 7 p.count (length word) above)
  ]

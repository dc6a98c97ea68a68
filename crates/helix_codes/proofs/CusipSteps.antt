-- A prefix of a CUSIP with one character more.
use Rattle.std.proofs.Common.{◌≡◌, ℕ, ◌+◌, ◌*◌, ◌%◌, ◌<◌, true, false, not, ◌==◌, if◌then◌else◌, inl, inr, List, ◌∷◌, length, map, ap, arith, refl, sym, ◌∙◌}
use Rattle.std.proofs.lemmas.Bool.{cases_lt, or_left, or_right}
use Rattle.helix_base.specs.Digits.{is_digit}
use Rattle.helix_values.specs.Codes.{is_capital, is_cusip_character, value_of, digit_sum, doubled_sum}
use Rattle.helix_codes.specs.declared.prefix.Prefix.{Prefix}
use Rattle.helix_codes.specs.Inner.Completed.{completes_cusip, is_odd}
use Rattle.helix_codes.specs.Inner.Positions.{cusip_allows}
use Rattle.helix_codes.specs.Inner.PrefixLaws.{prefix_of}
use Rattle.helix_codes.proofs.OneCharacter.{length_on, too_long, same_three, first_false, second_false, mod_on}
use Rattle.helix_codes.proofs.DigitLast.{at_most, shape_on, shape_off}
use Rattle.helix_codes.proofs.Parity.{odd_after}

digits_pass : (c : ℕ) → is_digit c ≡ true → is_cusip_character c ≡ true
digits_pass c digit = or_left _ _ (or_left _ _ (or_left _ _ (or_right (is_capital c) (is_digit c) digit)))

module _ (p : Prefix) (c : ℕ) where
  pub cusip_on : (value product : ℕ) → cusip_allows p.count c ≡ true → value ≡ value_of c
      → product ≡ digit_sum (if is_odd p.count then 2 * value else value) → (word : List ℕ)
      → completes_cusip (prefix_of (p.count + 1) ((p.even + product) % 10) ((p.even + product) % 10)) word
      ≡ completes_cusip p (c ∷ word)
  cusip_on value product allowed is_value is word =
      let below : p.count < 9 =
      (let most = at_most is_cusip_character digits_pass 8 p.count c word allowed in omega (arith, most)) in
      let turn : is_odd (p.count + 1) ≡ not (is_odd p.count) = odd_after p.count (p.count + 1) refl in
      let rest : ℕ = doubled_sum (not (is_odd p.count)) (map value_of word) in
      let same : product ≡ digit_sum (if is_odd p.count then 2 * value_of c else value_of c) =
      is ∙ ap (λ v. digit_sum (if is_odd p.count then 2 * v else v)) is_value in
      let sum : (((p.even + product) % 10 + doubled_sum (is_odd (p.count + 1)) (map value_of word)) % 10)
      ≡ ((p.even + doubled_sum (is_odd p.count) (map value_of (c ∷ word))) % 10) =
      ap (λ odd. ((p.even + product) % 10 + doubled_sum odd (map value_of word)) % 10) turn
      ∙ (mod_on p.even product rest ∙ ap (λ n. (p.even + (n + rest)) % 10) same) in
      same_three _ _ _ _ _ _ (sym (length_on 9 p.count (length word) below))
      (shape_on is_cusip_character digits_pass 8 p.count c word allowed) (ap (λ n. n == 0) sum)

  pub cusip_off : cusip_allows p.count c ≡ false → (word : List ℕ) → completes_cusip p (c ∷ word) ≡ false
  cusip_off refused word = elim (cases_lt p.count 9) [
    | inl below ↦ second_false _ _ _
        (shape_off is_cusip_character digits_pass 8 p.count c word (omega (arith, below)) refused)
    | inr above ↦ first_false _ _ _ (too_long 9 p.count (length word) above)
  ]

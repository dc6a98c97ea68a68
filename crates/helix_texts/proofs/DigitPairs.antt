-- Digits that are put two at a time.
use Rattle.std.proofs.Common.{◌≡◌, ℕ, ◌+◌, ◌-◌, ◌/◌, ◌%◌, ◌^◌, ◌<◌, ◌≤◌, List, [], ◌∷◌, ◌++◌, length, append_assoc, refl, sym, ap, ◌∙◌, arith}
use Rattle.std.proofs.Math.ListN.{set, take}
use Rattle.std.proofs.Math.Nat.{div-div-eq-div-mul}
use Rattle.helix_json.specs.Inner.DecimalLaws.{pow_more}
use Rattle.helix_texts.specs.Texts.{last_digits}
use Rattle.helix_texts.proofs.FixedDigits.{digit_step}

two_digits : (n : ℕ) → last_digits 2 n ≡ (48 + n / 10 % 10) ∷ (48 + n % 10) ∷ []
unfolding last_digits
two_digits n = refl

three_digits : (n : ℕ) → last_digits 3 n ≡ (48 + n / 10 / 10 % 10) ∷ (48 + n / 10 % 10) ∷ (48 + n % 10) ∷ []
unfolding last_digits
three_digits n = refl

four_digits : (n : ℕ) → last_digits 4 n
    ≡ (48 + n / 10 / 10 / 10 % 10) ∷ (48 + n / 10 / 10 % 10) ∷ (48 + n / 10 % 10) ∷ (48 + n % 10) ∷ []
unfolding last_digits
four_digits n = refl

module _ (prefix once twice : List ℕ) (n : ℕ) where
  pub two_put : n < 100 → once ≡ prefix ++ (48 + n / 10) ∷ [] → twice ≡ once ++ (48 + n % 10) ∷ [] →
      twice ≡ prefix ++ last_digits 2 n
  two_put small first second =
      let tens : n / 10 % 10 ≡ n / 10 = omega arith in
      rw (
        second,
        first,
        append_assoc,
      ) (sym (ap (λ ds. prefix ++ ds) (two_digits n ∙ ap (λ t. (48 + t) ∷ (48 + n % 10) ∷ []) tens)))

  pub three_put : n < 1000 → once ≡ prefix ++ (48 + n / 100) ∷ [] → twice ≡ once ++ last_digits 2 (n % 100) →
      twice ≡ prefix ++ last_digits 3 n
  three_put small first second =
      let hundreds : n / 10 / 10 % 10 ≡ n / 100 = omega arith in
      let tens : n % 100 / 10 % 10 ≡ n / 10 % 10 = omega arith in
      let ones : n % 100 % 10 ≡ n % 10 = omega arith in
      rw (second, first, append_assoc)
      (ap (λ ds. prefix ++ (48 + n / 100) ∷ ds) (two_digits (n % 100)
      ∙ (ap (λ t. (48 + t) ∷ (48 + n % 100 % 10) ∷ []) tens ∙ ap (λ o. (48 + n / 10 % 10) ∷ (48 + o) ∷ []) ones))
      ∙ sym (ap (λ ds. prefix ++ ds) (three_digits n
      ∙ ap (λ h. (48 + h) ∷ (48 + n / 10 % 10) ∷ (48 + n % 10) ∷ []) hundreds)))

  pub four_put : n < 10000 → once ≡ prefix ++ last_digits 2 (n / 100) → twice ≡ once ++ last_digits 2 (n % 100) →
      twice ≡ prefix ++ last_digits 4 n
  four_put small first second =
      let thousands : n / 10 / 10 / 10 % 10 ≡ n / 100 / 10 % 10 = omega arith in
      let hundreds : n / 10 / 10 % 10 ≡ n / 100 % 10 = omega arith in
      let tens : n % 100 / 10 % 10 ≡ n / 10 % 10 = omega arith in
      let ones : n % 100 % 10 ≡ n % 10 = omega arith in
      let high : last_digits 2 (n / 100) ≡ (48 + n / 100 / 10 % 10) ∷ (48 + n / 100 % 10) ∷ [] = two_digits (n / 100) in
      let low : last_digits 2 (n % 100) ≡ (48 + n / 10 % 10) ∷ (48 + n % 10) ∷ [] =
      two_digits (n % 100) ∙ (ap (λ t. (48 + t) ∷ (48 + n % 100 % 10) ∷ []) tens
      ∙ ap (λ o. (48 + n / 10 % 10) ∷ (48 + o) ∷ []) ones) in
      let whole : last_digits 4 n ≡ (48 + n / 100 / 10 % 10) ∷ (48 + n / 100 % 10) ∷ (48 + n / 10 % 10) ∷ (48 + n %
      10) ∷ [] =
      four_digits n
      ∙ (ap (λ t. (48 + t) ∷ (48 + n / 10 / 10 % 10) ∷ (48 + n / 10 % 10) ∷ (48 + n % 10) ∷ []) thousands
      ∙ ap (λ h. (48 + n / 100 / 10 % 10) ∷ (48 + h) ∷ (48 + n / 10 % 10) ∷ (48 + n % 10) ∷ []) hundreds) in
      rw (second, first, append_assoc, high, low, whole) refl

next_rest : (number rest done : ℕ) → rest ≡ number / 10 ^ done → rest / 10 ≡ number / 10 ^ (done + 1)
next_rest number rest done is =
    ap (λ r. r / 10) is ∙ (div-div-eq-div-mul number (10 ^ done) 10 ∙ ap (λ p. number / p) (sym (pow_more done)))

-- what is left of a number after two more digits
pub rest_more : (number rest done : ℕ) → rest ≡ number / 10 ^ done → rest / 100 ≡ number / 10 ^ (done + 2)
rest_more number rest done is =
    let twice : rest / 100 ≡ rest / 10 / 10 = omega arith in
    twice ∙ (next_rest number (rest / 10) (done + 1) (next_rest number rest done is)
    ∙ ap (λ k. number / 10 ^ k) (omega arith))

-- the step of a loop that puts the two last digits of what is left
pub pair_more : (list given : List ℕ) (number rest done end first second left : ℕ) → rest ≡ number / 10 ^ done →
    take end list ≡ take (end - done) given ++ last_digits done number → done + 2 ≤ end → end ≤ length given →
    first ≡ end - 1 - done → second ≡ end - 2 - done → left ≡ second →
    take end (set (set list first (48 + rest % 100 % 10)) second (48 + rest % 100 / 10))
    ≡ take left given ++ last_digits (done + 2) number
pair_more list given number rest done end first second left is text more within at_first at_second same =
    let ones : rest % 100 % 10 ≡ rest % 10 = omega arith in
    let tens : rest % 100 / 10 ≡ rest / 10 % 10 = omega arith in
    let one : take end (set list first (48 + rest % 10))
    ≡ take (end - (done + 1)) given ++ last_digits (done + 1) number =
    digit_step list given number rest done end first (end - (done + 1)) is text (omega arith) (omega arith)
    (omega arith) (omega arith) in
    let two : take end (set (set list first (48 + rest % 10)) second (48 + rest / 10 % 10))
    ≡ take left given ++ last_digits (done + 1 + 1) number =
    digit_step (set list first (48 + rest % 10)) given number (rest / 10) (done + 1) end second left
    (next_rest number rest done is) one (omega arith) (omega arith) (omega arith) same in
    ap (λ d. take end (set (set list first (48 + d)) second (48 + rest % 100 / 10))) ones
    ∙ (ap (λ d. take end (set (set list first (48 + rest % 10)) second (48 + d))) tens
    ∙ (two ∙ ap (λ k. take left given ++ last_digits k number) (omega arith)))

-- the last digit, where their number is odd
pub last_put : (list given : List ℕ) (number rest done end at width : ℕ) → rest ≡ number / 10 ^ done →
    take end list ≡ take (end - done) given ++ last_digits done number → end ≡ at + width → done + 1 ≡ width
    → end ≤ length given →
    take end (set list at (48 + rest % 10)) ≡ take at given ++ last_digits width number
last_put list given number rest done end at width is text whole last within =
    digit_step list given number rest done end at at is text (omega arith) (omega arith) (omega arith) (omega arith)
    ∙ ap (λ k. take at given ++ last_digits k number) last

pub digits_done : (list given : List ℕ) (number done end at width : ℕ) →
    take end list ≡ take (end - done) given ++ last_digits done number → end ≡ at + width → done ≡ width →
    take end list ≡ take at given ++ last_digits width number
digits_done list given number done end at width text whole same =
    let begin : end - done ≡ at = omega arith in
    text ∙ (ap (λ k. take k given ++ last_digits done number) begin
    ∙ ap (λ k. take at given ++ last_digits k number) same)

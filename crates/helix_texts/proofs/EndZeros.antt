-- Zeros at the end of digits.
use Rattle.std.proofs.Common.{◌≡◌, ◌≢◌, ℕ, zero, suc, ◌+◌, ◌-◌, ◌*◌, ◌/◌, ◌%◌, ◌^◌, ◌<◌, ◌≤◌, List, [], ◌∷◌, ◌++◌, length, inl, inr, ⊎_elim, refl, sym, ap, ◌∙◌, arith}
use Rattle.std.proofs.Common.{decimal}
use Rattle.std.proofs.lemmas.Fmt.{length-decimal-le_wide}
use Rattle.std.proofs.Math.Arith.{mod-mul}
use Rattle.std.proofs.Math.Nat.{pow-suc, pow-succ', div-div-eq-div-mul, div-lt_iff_lt-mul, div-add-mod, mod-eq_of_lt, mul-le-mul_left}
use Rattle.std.proofs.lemmas.Bool.{cases_lt}
use Rattle.std.proofs.lemmas.Nat.{pow-add}
use Rattle.helix_json.specs.Inner.DecimalLaws.{pow_more, some_power}
use Rattle.helix_texts.specs.Texts.{last_digits, before_rest, without_zeros}
use Rattle.helix_texts.proofs.DecimalTexts.{kept_cases, last_digits-suc}

-- a zero more changes nothing
zero_more : (ds : List ℕ) → without_zeros (ds ++ 48 ∷ []) ≡ without_zeros ds
zero_more [] = refl
zero_more (d ∷ ds) = ap (before_rest d) (zero_more ds)

-- another digit keeps all
kept_some : (d : ℕ) (ds : List ℕ) (c : ℕ) → before_rest d (ds ++ c ∷ []) ≡ d ∷ (ds ++ c ∷ [])
kept_some d [] c = refl
kept_some d (e ∷ ds) c = refl

digit_more : (ds : List ℕ) (c : ℕ) → c ≢ 48 → without_zeros (ds ++ c ∷ []) ≡ ds ++ c ∷ []
digit_more [] c some = elim (kept_cases c []) [ inl gone ↦ absurd (some gone.0) | inr stays ↦ stays ]
digit_more (d ∷ ds) c some = ap (before_rest d) (digit_more ds c some) ∙ kept_some d ds c

pub zero_left_out : (width n : ℕ) → 0 < width → n % 10 ≡ 0
    → without_zeros (last_digits width n) ≡ without_zeros (last_digits (width - 1) (n / 10))
zero_left_out zero n some zeros = absurd (omega arith)
zero_left_out (suc width) n some zeros =
    let back : suc width - 1 ≡ width = omega arith in
    ap without_zeros (last_digits-suc width n ∙ ap (λ z. last_digits width (n / 10) ++ (48 + z) ∷ []) zeros)
    ∙ (zero_more (last_digits width (n / 10)) ∙ ap (λ w. without_zeros (last_digits w (n / 10))) (sym back))

pub none_left_out : (width n : ℕ) → 0 < width → n % 10 ≢ 0 → last_digits width n ≡ without_zeros (last_digits width n)
none_left_out zero n some digit = absurd (omega arith)
none_left_out (suc width) n some digit =
    last_digits-suc width n ∙ (sym (digit_more (last_digits width (n / 10)) (48 + n % 10) (λ is. digit (omega arith)))
    ∙ ap without_zeros (sym (last_digits-suc width n)))

pub all_left_out : (width : ℕ) → without_zeros (last_digits width 0) ≡ []
unfolding last_digits
all_left_out zero = refl
all_left_out (suc width) = zero_more (last_digits width 0) ∙ all_left_out width

-- a number below a power of ten that isn't 0 has a digit
pub some_digit : (width n : ℕ) → 0 < n → n < 10 ^ width → 0 < width
some_digit zero n some below = absurd (omega arith)
some_digit (suc width) n some below = omega arith

pub fewer_digits : (width n : ℕ) → 0 < width → n < 10 ^ width → n / 10 < 10 ^ (width - 1)
fewer_digits zero n some below = absurd (omega arith)
fewer_digits (suc width) n some below =
    let back : suc width - 1 ≡ width = omega arith in
    let power : 10 ^ suc width ≡ 10 ^ width * 10 = ap (λ k. 10 ^ k) (omega arith) ∙ pow_more width in
    rw back (omega (arith, power))

-- a number up to 10^20 has at most 21 digits
pub numeral-le : (n : ℕ) → n ≤ 10 ^ 20 → length (decimal n) ≤ 21
numeral-le n within = length-decimal-le_wide 21 n (omega arith) (omega arith) (omega arith)

-- as many zeros as `zeros` at the end of digits change nothing
pub zeros_left_out : (zeros places n : ℕ) → zeros ≤ places → n % 10 ^ zeros ≡ 0 →
    without_zeros (last_digits (places - zeros) (n / 10 ^ zeros)) ≡ without_zeros (last_digits places n)
zeros_left_out zero places n within multiple =
    let none : places - zero ≡ places = omega arith in
    let one : n / 10 ^ zero ≡ n = omega arith in
    rw (none, one) refl
zeros_left_out (suc zeros) places n within multiple =
    let split : (n / 10 % 10 ^ zeros) * 10 + n % 10 ≡ 0 = sym (mod-mul n (some_power zeros) (omega arith))
    ∙ (ap (λ p. n % p) (sym (pow-suc 10 zeros)) ∙ multiple) in
    let quotient : n / 10 / 10 ^ zeros ≡ n / 10 ^ suc zeros = div-div-eq-div-mul n 10 (10 ^ zeros)
    ∙ ap (λ k. n / k) (sym (pow-succ' 10 zeros)) in
    let count : places - 1 - zeros ≡ places - suc zeros = omega arith in
    sym (ap (λ w. without_zeros (last_digits w (n / 10 ^ suc zeros))) count)
    ∙ (ap (λ k. without_zeros (last_digits (places - 1 - zeros) k)) (sym quotient)
    ∙ (zeros_left_out zeros (places - 1) (n / 10) (omega arith) (omega (arith, split))
    ∙ sym (zero_left_out places n (omega arith) (omega (arith, split)))))

-- a multiple of a power of ten has more digits than the power has zeros
more_places : (zeros places n : ℕ) → 0 < n → n % 10 ^ zeros ≡ 0 → n < 10 ^ places → zeros < places
more_places zeros places n some multiple below =
    ⊎_elim {A = zeros < places} {B = places ≤ zeros} (λ more. more)
    (λ fewer.
    let split : 10 ^ zeros ≡ 10 ^ places * 10 ^ (zeros - places) = ap (λ k. 10 ^ k) (omega arith)
    ∙ pow-add 10 places (zeros - places) in
    let least : 1 ≤ 10 ^ (zeros - places) = some_power (zeros - places) in
    let power : 10 ^ places ≤ 10 ^ zeros = omega (arith, split, mul-le-mul_left (10 ^ places) least) in
    let same : n % 10 ^ zeros ≡ n = mod-eq_of_lt (omega arith) in
    absurd (omega arith))
    (cases_lt zeros places)

-- digits and the power of ten that is taken off them
module _ (zeros places n power : ℕ) (is : power ≡ 10 ^ zeros) (some : 0 < n) (below : n < 10 ^ places)
    (multiple : n % power ≡ 0) where
  pub fits_places : zeros ≤ places
  fits_places = omega (arith, more_places zeros places n some (rw is at multiple) below)

  pub shorter_text : without_zeros (last_digits (places - zeros) (n / power)) ≡ without_zeros (last_digits places n)
  shorter_text = rw is (zeros_left_out zeros places n fits_places (rw is at multiple))

  pub shorter_below : n / power < 10 ^ (places - zeros)
  shorter_below =
      let whole : 10 ^ places ≡ 10 ^ (places - zeros) * 10 ^ zeros = ap (λ k. 10 ^ k) (omega (arith, fits_places))
      ∙ pow-add 10 (places - zeros) zeros in
      rw is ((div-lt_iff_lt-mul (some_power zeros)).1 (omega (arith, whole)))

  pub shorter_some : 0 < n / power
  shorter_some =
      ⊎_elim {A = 0 < n / power} {B = n / power ≤ 0} (λ more. more)
      (λ none. absurd (omega (arith, div-add-mod n power, mul-le-mul_left power none)))
      (cases_lt 0 (n / power))

  pub shorter_fewer : n % (power * power) ≢ 0 → n / power % power ≢ 0
  shorter_fewer more none =
      let positive : 0 < power = rw is (some_power zeros) in
      let whole : (n / power % power) * power ≡ 0 * power = ap (λ k. k * power) none in
      more (mod-mul n positive positive ∙ omega (arith, whole, multiple))

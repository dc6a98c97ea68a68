-- Numbers that end in no zero, and their units.
use Rattle.std.proofs.Common.{◌≡◌, ◌≢◌, ℕ, ◌+◌, ◌*◌, ◌-◌, ◌^◌, ◌%◌, ◌<◌, ◌≤◌, zero, suc, List, [], ◌∷◌, length, get_or, take, drop, mul_assoc, add-one, ◌⊎◌, inl, inr, subst, Bool, true, false, ◌↔◌, sym, ◌∙◌, ap, arith}
use Rattle.std.proofs.lemmas.List.{take-append-drop}
use Rattle.std.proofs.lemmas.Nat.{pow-add}
use Rattle.std.proofs.Math.Nat.{mul-le-mul_left}
use Rattle.helix_json.specs.Numbers.{digits_from}
use Rattle.helix_base.specs.Digits.{AreDigits}
use Rattle.helix_json.specs.Inner.Pieces.{IsReduced, Unreachable, AreUnits}
use Rattle.helix_json.specs.Inner.DecimalLaws.{from-append, from-more, some_power, shift, cancel}
use Rattle.helix_base.specs.Inner.DigitLaws.{digit_bounds}

-- the smaller power goes to the other side
pub cancel_less : (a b x y : ℕ) → x ≤ y → a * 10 ^ x ≡ b * 10 ^ y → a ≡ b * 10 ^ (y - x)
cancel_less a b x y le e =
    let split : y ≡ (y - x) + x = omega arith in
    cancel a (b * 10 ^ (y - x)) x (e ∙ (ap (λ n. b * 10 ^ n) split
    ∙ (ap (λ n. b * n) (pow-add 10 (y - x) x) ∙ sym (mul_assoc b (10 ^ (y - x)) (10 ^ x)))))

pub power_rises : (j k : ℕ) → j ≤ k → 10 ^ j ≤ 10 ^ k
power_rises j k le = let split : k ≡ j + (k - j) = omega arith in
    let e : 10 ^ k ≡ 10 ^ j * 10 ^ (k - j) = ap (λ n. 10 ^ n) split ∙ pow-add 10 j (k - j) in
    let m : 10 ^ j * 1 ≤ 10 ^ j * 10 ^ (k - j) = mul-le-mul_left (10 ^ j) (some_power (k - j)) in omega (arith, e, m)

pub product_rises : (n j k : ℕ) → j ≤ k → n * 10 ^ j ≤ n * 10 ^ k
product_rises n j k le = mul-le-mul_left n (power_rises j k le)

pub le_or_lt : (a b : ℕ) → (a ≤ b) ⊎ (b < a)
le_or_lt zero b = inl (omega arith)
le_or_lt (suc a) zero = inr (omega arith)
le_or_lt (suc a) (suc b) = elim (le_or_lt a b) [ inl le ↦ inl (omega arith) | inr gt ↦ inr (omega arith) ]

-- a positive number times 10^36 and more is above the range
pub too_great : (n k : ℕ) → 0 < n → n * 10 ^ k ≤ 10 ^ 35 → k ≤ 35
too_great n k some below = elim (le_or_lt k 35) [
  | inl le ↦ le
  | inr gt ↦ absurd (omega (arith, product_rises n 36 k (omega arith)))
]

-- a step of a product by tens
pub above_more : (most product n done power : ℕ) → product ≡ n * 10 ^ done → done + 1 ≤ power → most < product * 10
    → most < n * 10 ^ power
above_more most product n done power is le above =
    omega (arith, shift n done, product_rises n (done + 1) power le, ap (λ m. m * 10) is)

pub product_more : (product n done : ℕ) → product ≡ n * 10 ^ done → product * 10 ≡ n * 10 ^ (done + 1)
product_more product n done is = ap (λ m. m * 10) is ∙ sym (shift n done)

-- numbers above a bound that do not end in zero are no smaller number times a power of ten
pub unreachable_odd : (most value : ℕ) → most < value → value % 10 ≢ 0 → Unreachable most value
unreachable_odd most value above odd n zero le e = omega (arith, e)
unreachable_odd most value above odd n (suc k) le e =
    let f : value ≡ (n * 10 ^ k) * 10 = e ∙ (ap (λ j. n * 10 ^ j) (sym (add-one k)) ∙ shift n k) in
    odd (omega (arith, f))

pub unreachable_more : (most value digit : ℕ) → digit ≤ 9 → Unreachable most value
    → Unreachable most (value * 10 + digit)
unreachable_more most value digit small gone n zero le e = gone value 0 (omega (arith, e)) (omega arith)
unreachable_more most value digit small gone n (suc k) le e =
    let f : value * 10 + digit ≡ (n * 10 ^ k) * 10 = e ∙ (ap (λ j. n * 10 ^ j) (sym (add-one k)) ∙ shift n k) in
    gone n k le (omega (arith, f))

pub unreachable_digits : (most value : ℕ) (cs : List ℕ) → AreDigits cs → Unreachable most value
    → Unreachable most (digits_from value cs)
unreachable_digits most value [] all gone = gone
unreachable_digits most value (c ∷ cs) all gone =
    let b : (48 ≤ c) × (c ≤ 57) = digit_bounds c all.0 in
    unreachable_digits most (value * 10 + (c - 48)) cs all.1 (unreachable_more most value (c - 48) (omega arith) gone)

pub digits_rest : (cs : List ℕ) (i : ℕ) → AreDigits cs → AreDigits (drop i cs)
digits_rest cs zero all = all
digits_rest [] (suc i) all = tt
digits_rest (c ∷ cs) (suc i) all = digits_rest cs i all.1

-- what is gone at one digit stays gone
pub unreachable_from : (most value : ℕ) (cs : List ℕ) (i : ℕ) → i < length cs → AreDigits cs
    → Unreachable most (digits_from value (take i cs) * 10 + (get_or cs i 0 - 48))
    → Unreachable most (digits_from value cs)
unreachable_from most value cs i within all gone =
    let here : Unreachable most (digits_from value (take (i + 1) cs)) = subst (Unreachable most)
    (sym (from-more value cs i within)) gone in
    let e : digits_from (digits_from value (take (i + 1) cs)) (drop (i + 1) cs) ≡ digits_from value cs =
    sym (from-append value (take (i + 1) cs) (drop (i + 1) cs))
    ∙ ap (digits_from value) (take-append-drop (i + 1) cs) in
    subst (Unreachable most) e (unreachable_digits most _ (drop (i + 1) cs) (digits_rest cs (i + 1) all) here)

-- one digit more after a reduced number
pub reduced_zero : (value n zeros : ℕ) → IsReduced value n zeros → IsReduced (value * 10 + 0) n (zeros + 1)
reduced_zero value n zeros r = record { is = omega (arith, r.is, shift n zeros); no_zero = r.no_zero }

pub reduced_odd : (value n zeros shifted digit : ℕ) → IsReduced value n zeros → shifted ≡ n * 10 ^ (zeros + 1)
    → 0 < digit → digit ≤ 9
    → IsReduced (value * 10 + digit) (shifted + digit) 0
reduced_odd value n zeros shifted digit r is some small = record {
  is = omega (arith, r.is, is, shift n zeros);
  no_zero = λ _ e. let f : shifted ≡ (n * 10 ^ zeros) * 10 = is ∙ shift n zeros in omega (arith, f, e);
}

pub above_odd : (most value n zeros digit : ℕ) → IsReduced value n zeros → most < n * 10 ^ (zeros + 1) + digit
    → 0 < digit → digit ≤ 9
    → Unreachable most (value * 10 + digit)
above_odd most value n zeros digit r above some small =
    unreachable_odd most (value * 10 + digit) (omega (arith, r.is, shift n zeros)) (λ e. omega (arith, e))

-- a number with no zero at its end, times a power of ten, is a whole number times a greater power only at zero
pub placed_below : (number up down n : ℕ) → number % 10 ≢ 0 → up < down → number * 10 ^ up ≢ n * 10 ^ down
placed_below number up down n odd less e =
    let f : number ≡ n * 10 ^ (down - up) = cancel_less number n up down (omega arith) e in
    let g : down - up ≡ (down - up - 1) + 1 = omega arith in
    let h : number ≡ (n * 10 ^ (down - up - 1)) * 10 = f ∙ (ap (λ j. n * 10 ^ j) g ∙ shift n (down - up - 1)) in
    odd (omega (arith, h))

pub placed_at : (number up down n : ℕ) → down ≤ up → n ≡ number * 10 ^ (up - down) → number * 10 ^ up ≡ n * 10 ^ down
placed_at number up down n le e =
    let split : up ≡ (up - down) + down = omega arith in
    ap (λ j. number * 10 ^ j) split ∙ (ap (λ m. number * m) (pow-add 10 (up - down) down)
    ∙ (sym (mul_assoc number (10 ^ (up - down)) (10 ^ down)) ∙ ap (λ m. m * 10 ^ down) (sym e)))

pub placed_above : (most number up down n : ℕ) → down ≤ up → most < number * 10 ^ (up - down) → n ≤ most
    → number * 10 ^ up ≢ n * 10 ^ down
placed_above most number up down n le above small e =
    let f : n ≡ number * 10 ^ (up - down) = cancel_less n number down up le (sym e) in omega (arith, f)

-- a reduced value times a power of ten
pub raise : (value number zeros k : ℕ) → IsReduced value number zeros → value * 10 ^ k ≡ number * 10 ^ (zeros + k)
raise value number zeros k r = ap (λ v. v * 10 ^ k) r.is
    ∙ (mul_assoc number (10 ^ zeros) (10 ^ k) ∙ ap (λ m. number * m) (sym (pow-add 10 zeros k)))

pub units_zero : (value number zeros places exponent : ℕ) (lowers : Bool) → IsReduced value number zeros → number ≡ 0
    → AreUnits value places lowers exponent 0
units_zero value number zeros places exponent true r e =
    raise value number zeros 15 r ∙ (ap (λ m. m * 10 ^ (zeros + 15)) e ∙ omega arith)
units_zero value number zeros places exponent false r e =
    raise value number zeros (15 + exponent) r ∙ (ap (λ m. m * 10 ^ (zeros + (15 + exponent))) e ∙ omega arith)

unreachable_units : (most value up down n : ℕ) → Unreachable most value → n ≤ most → value * 10 ^ up ≢ n * 10 ^ down
unreachable_units most value up down n gone small e = elim (le_or_lt up down) [
  | inl le ↦ gone n (down - up) small (cancel_less value n up down le e)
  | inr gt ↦ (let f : n ≡ value * 10 ^ (up - down) = cancel_less n value down up (omega arith) (sym e) in
      let m : value * 1 ≤ value * 10 ^ (up - down) = mul-le-mul_left value (some_power (up - down)) in
      gone value 0 (omega (arith, f, m)) (omega arith))
]

pub units_none : (most value places exponent n : ℕ) (lowers : Bool) → Unreachable most value → n ≤ most
    → ¬ (AreUnits value places lowers exponent n)
units_none most value places exponent n true gone small e =
    unreachable_units most value 15 (places + exponent) n gone small e
units_none most value places exponent n false gone small e =
    unreachable_units most value (15 + exponent) places n gone small e

-- an exponent beyond every number of digits
pub units_huge : (value number zeros places exponent n : ℕ) (lowers : Bool) → IsReduced value number zeros → number ≢ 0
    → zeros + 100 < exponent → places + 100 < exponent → n ≤ 10 ^ 35 → ¬ (AreUnits value places lowers exponent n)
units_huge value number zeros places exponent n true r some far_zeros far small e =
    placed_below number (zeros + 15) (places + exponent) n (r.no_zero some) (omega arith)
    (sym (raise value number zeros 15 r) ∙ e)
units_huge value number zeros places exponent n false r some far_zeros far small e =
    let f : n ≡ number * 10 ^ (zeros + (15 + exponent) - places) =
    cancel_less n number places (zeros + (15 + exponent)) (omega arith) (sym e
    ∙ raise value number zeros (15 + exponent) r) in
    let g : zeros + (15 + exponent) - places
    ≤ 35 = too_great number (zeros + (15 + exponent) - places) (omega arith) (omega (arith, f)) in
    omega (arith, g)

-- an exponent that lowers, and one that raises
pub units_lowered : (value number ended places power exponent n : ℕ) (lowers : Bool) → lowers ≡ true → power ≡ exponent
    → IsReduced value number ended
    → (number * 10 ^ (ended + 15) ≡ n * 10 ^ (places + power)) ↔ AreUnits value places lowers exponent n
units_lowered value number ended places power exponent n true is same r = (
  λ e. raise value number ended 15 r ∙ (e ∙ ap (λ k. n * 10 ^ (places + k)) same),
  λ e. sym (raise value number ended 15 r) ∙ (e ∙ ap (λ k. n * 10 ^ (places + k)) (sym same)),
)
units_lowered value number ended places power exponent n false is same r = cc

pub units_raised : (value number ended places power exponent n : ℕ) (lowers : Bool) → lowers ≡ false → power ≡ exponent
    → IsReduced value number ended
    → (number * 10 ^ (ended + (15 + power)) ≡ n * 10 ^ places) ↔ AreUnits value places lowers exponent n
units_raised value number ended places power exponent n false is same r = (
  λ e. raise value number ended (15 + exponent) r ∙ (ap (λ k. number * 10 ^ (ended + (15 + k))) (sym same) ∙ e),
  λ e. ap (λ k. number * 10 ^ (ended + (15 + k))) same ∙ (sym (raise value number ended (15 + exponent) r) ∙ e),
)
units_raised value number ended places power exponent n true is same r = cc

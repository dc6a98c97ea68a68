-- Lengths and tests of a word with one character more, which stand n characters from the beginning of a code, where
-- `count` characters are before it.
use Rattle.std.proofs.Common.{◌≡◌, ℕ, suc, ◌+◌, ◌-◌, ◌%◌, ◌<◌, ◌≤◌, Bool, true, false, ◌&&◌, eqb, List, ◌∷◌, take, drop, ap, arith, refl, sym, ◌∙◌}
use Rattle.std.specs.List.{list_all}
use Rattle.std.proofs.Math.Dec.{eqb-suc-suc, eqb-suc-zero}

pub length_on : (n count l : ℕ) → count < n → eqb (suc l) (n - count) ≡ eqb l (n - (count + 1))
length_on n count l below =
    let e : n - count ≡ suc (n - (count + 1)) = omega (arith, below) in
    ap (λ m. eqb (suc l) m) e ∙ eqb-suc-suc l (n - (count + 1))

pub too_long : (n count l : ℕ) → n ≤ count → eqb (suc l) (n - count) ≡ false
too_long n count l above =
    let e : n - count ≡ 0 = omega (arith, above) in ap (λ m. eqb (suc l) m) e ∙ eqb-suc-zero l

module _ (test : ℕ → Bool) (c : ℕ) (word : List ℕ) (n count : ℕ) where
  pub drop_below : count < n
      → list_all test (drop (n - count) (c ∷ word)) ≡ list_all test (drop (n - (count + 1)) word)
  drop_below below = let e : n - count ≡ suc (n - (count + 1)) = omega (arith, below) in
      ap (λ m. list_all test (drop m (c ∷ word))) e

  pub drop_from : n ≤ count
      → list_all test (drop (n - count) (c ∷ word)) ≡ (test c && list_all test (drop (n - (count + 1)) word))
  drop_from above =
      let e : n - count ≡ 0 = omega (arith, above) in
      let f : n - (count + 1) ≡ 0 = omega (arith, above) in
      ap (λ m. list_all test (drop m (c ∷ word))) e ∙ ap (λ m. test c && list_all test (drop m word)) (sym f)

  pub take_below : count < n
      → list_all test (take (n - count) (c ∷ word)) ≡ (test c && list_all test (take (n - (count + 1)) word))
  take_below below = let e : n - count ≡ suc (n - (count + 1)) = omega (arith, below) in
      ap (λ m. list_all test (take m (c ∷ word))) e

  pub take_from : n ≤ count
      → list_all test (take (n - count) (c ∷ word)) ≡ list_all test (take (n - (count + 1)) word)
  take_from above =
      let e : n - count ≡ 0 = omega (arith, above) in
      let f : n - (count + 1) ≡ 0 = omega (arith, above) in
      ap (λ m. list_all test (take m (c ∷ word))) e ∙ ap (λ m. list_all test (take m word)) (sym f)

-- a conjunction of three, part by part
pub same_three : (a b c d e f : Bool) → a ≡ d → b ≡ e → c ≡ f → (a && b && c) ≡ (d && e && f)
same_three a b c d e f first second third = cc

pub first_false : (a b c : Bool) → a ≡ false → (a && b && c) ≡ false
first_false a b c e = rw e refl

pub second_false : (a b c : Bool) → b ≡ false → (a && b && c) ≡ false
second_false true false c e = refl
second_false false false c e = refl
second_false a true c e = cc

pub third_false : (a b c : Bool) → c ≡ false → (a && b && c) ≡ false
third_false true true c e = e
third_false true false c e = refl
third_false false b c e = refl

pub right_fails : (a b : Bool) → a ≡ true → (a && b) ≡ false → b ≡ false
right_fails true b e f = f
right_fails false b e f = cc

-- a test that holds adds nothing to a conjunction
pub and_holds : (a b c : Bool) → b ≡ (a && c) → a ≡ true → b ≡ c
and_holds true b c e f = e
and_holds false b c e f = cc

pub and_fails : (a b c : Bool) → b ≡ (a && c) → a ≡ false → b ≡ false
and_fails false b c e f = e
and_fails true b c e f = cc

pub mod_on : (e x a : ℕ) → ((e + x) % 10 + a) % 10 ≡ (e + (x + a)) % 10
mod_on e x a = omega arith

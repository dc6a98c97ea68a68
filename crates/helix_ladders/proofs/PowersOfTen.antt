-- The powers of ten that are steps of the grids of numbers.
use Rattle.std.proofs.Common.{◌≡◌, ℕ, zero, suc, ◌+◌, ◌*◌, ◌/◌, ◌%◌, ◌^◌, ◌<◌, ◌≤◌, sym, ap, ◌∙◌, ℤ, pos, neg_ℤ, ◌≤ℤ◌, List, [], ◌∷◌, get_or, refl, arith}
use Rattle.std.proofs.lemmas.Int.{ints}
use Rattle.std.proofs.Math.Arith.{mod-mul}
use Rattle.std.proofs.Math.Nat.{pow-suc, mod-eq_of_lt}
use Rattle.helix_ladders.specs.Grids.{IsMultipleOf, IsOnNumberGrid}
use Rattle.helix_ladders.specs.Scale.{IsLeast, IsGreatest, IsAtOrAfter, IsAtOrBefore}
use Rattle.helix_ladders.specs.Ladders.{numbers_ladder}
use Rattle.helix_ladders.specs.LadderLaws.{number_grid_coarser}

-- the tables of the powers of ten and of five, as the code has them
abbrev tens : List ℕ
tens =
    1 ∷ 10 ∷ 100 ∷ 1000 ∷ 10000 ∷ 100000 ∷ 1000000 ∷ 10000000 ∷ 100000000 ∷ 1000000000 ∷ 10000000000 ∷
    100000000000 ∷ 1000000000000 ∷ 10000000000000 ∷ 100000000000000 ∷ 1000000000000000 ∷ []

abbrev fives : List ℕ
fives =
    1 ∷ 5 ∷ 25 ∷ 125 ∷ 625 ∷ 3125 ∷ 15625 ∷ 78125 ∷ 390625 ∷ 1953125 ∷ 9765625 ∷ 48828125 ∷ 244140625 ∷
    1220703125 ∷ 6103515625 ∷ 30517578125 ∷ []

-- what holds of each of the sixteen levels
module _ (P : ℕ → Type 0) (p0 : P 0) (p1 : P 1) (p2 : P 2) (p3 : P 3) (p4 : P 4) (p5 : P 5)
    (p6 : P 6) (p7 : P 7) (p8 : P 8) (p9 : P 9) (p10 : P 10)
    (p11 : P 11) (p12 : P 12) (p13 : P 13) (p14 : P 14) (p15 : P 15) where
  each_level : (level : ℕ) → level < 16 → P level
  each_level zero within = p0
  each_level (suc zero) within = p1
  each_level (suc (suc zero)) within = p2
  each_level (suc (suc (suc zero))) within = p3
  each_level (suc (suc (suc (suc zero)))) within = p4
  each_level (suc (suc (suc (suc (suc zero))))) within = p5
  each_level (suc (suc (suc (suc (suc (suc zero)))))) within = p6
  each_level (suc (suc (suc (suc (suc (suc (suc zero))))))) within = p7
  each_level (suc (suc (suc (suc (suc (suc (suc (suc zero)))))))) within = p8
  each_level (suc (suc (suc (suc (suc (suc (suc (suc (suc zero))))))))) within = p9
  each_level (suc (suc (suc (suc (suc (suc (suc (suc (suc (suc zero)))))))))) within = p10
  each_level (suc (suc (suc (suc (suc (suc (suc (suc (suc (suc (suc zero))))))))))) within = p11
  each_level (suc (suc (suc (suc (suc (suc (suc (suc (suc (suc (suc (suc zero)))))))))))) within = p12
  each_level (suc (suc (suc (suc (suc (suc (suc (suc (suc (suc (suc (suc (suc zero))))))))))))) within = p13
  each_level (suc (suc (suc (suc (suc (suc (suc (suc (suc (suc (suc (suc (suc (suc zero)))))))))))))) within = p14
  each_level (suc (suc (suc (suc (suc (suc (suc (suc (suc (suc (suc (suc (suc (suc (suc zero))))))))))))))) within = p15
  each_level (suc (suc (suc (suc (suc (suc (suc (suc (suc (suc (suc (suc (suc (suc (suc (suc level))))))))))))))))
      within =
      absurd (omega arith)

pub power_at : (level : ℕ) → level < 16 → get_or tens level 0 ≡ 10 ^ level
power_at = each_level (λ level. get_or tens level 0 ≡ 10 ^ level)
    refl refl refl refl refl refl refl refl refl refl refl refl refl refl refl refl

pub five_at : (level : ℕ) → level < 16 → get_or fives level 0 ≡ 5 ^ level
five_at = each_level (λ level. get_or fives level 0 ≡ 5 ^ level)
    refl refl refl refl refl refl refl refl refl refl refl refl refl refl refl refl

pub five_small : (level : ℕ) → level < 16 → get_or fives level 0 ≤ 5 ^ 15
five_small = each_level (λ level. get_or fives level 0 ≤ 5 ^ 15)
    (omega arith) (omega arith) (omega arith) (omega arith) (omega arith) (omega arith) (omega arith)
    (omega arith) (omega arith) (omega arith) (omega arith) (omega arith) (omega arith) (omega arith)
    (omega arith) (omega arith)

pub two_small : (level : ℕ) → level < 16 → 2 ^ level ≤ 2 ^ 15
two_small = each_level (λ level. 2 ^ level ≤ 2 ^ 15)
    (omega arith) (omega arith) (omega arith) (omega arith) (omega arith) (omega arith) (omega arith)
    (omega arith) (omega arith) (omega arith) (omega arith) (omega arith) (omega arith) (omega arith)
    (omega arith) (omega arith)

-- a power of ten is one of five times one of two
ten_is : (level : ℕ) → 10 ^ level ≡ 5 ^ level * 2 ^ level
ten_is zero = refl
ten_is (suc level) = rw (pow-suc 10 level, pow-suc 5 level, pow-suc 2 level) (omega (arith, ten_is level))

two_positive : (level : ℕ) → 0 < 2 ^ level
two_positive zero = omega arith
two_positive (suc level) = omega (arith, pow-suc 2 level, two_positive level)

five_positive : (level : ℕ) → 0 < 5 ^ level
five_positive zero = omega arith
five_positive (suc level) = omega (arith, pow-suc 5 level, five_positive level)

remainder_by_parts : (number level : ℕ) →
    (number / 2 ^ level % 5 ^ level) * 2 ^ level + number % 2 ^ level ≡ number % 10 ^ level
remainder_by_parts number level = sym (ap (λ n. number % n) (ten_is level)
    ∙ mod-mul number (five_positive level) (two_positive level))

pub small_power_of_two : (level : ℕ) → level < 16 → 1 * 2 ^ level % 2 ^ 128 ≡ 2 ^ level
small_power_of_two level within =
    let same : 1 * 2 ^ level ≡ 2 ^ level = omega arith in
    rw same (mod-eq_of_lt (omega (arith, two_small level within)))

-- a division by a power of ten, in two
module _ (number level high five two : ℕ) (is_five : five ≡ 5 ^ level) (is_two : two ≡ 2 ^ level) (is_high : high
    ≡ number / two) where
  pub remainder_in_two : high % five * two + number % two ≡ number % 10 ^ level
  remainder_in_two = rw (is_high, is_five, is_two) (remainder_by_parts number level)

-- the ends of the range are on every grid
pub end_on_grid : (level : ℕ) → level < 16 → IsOnNumberGrid level (pos (10 ^ 35))
end_on_grid level within = number_grid_coarser 15 level (pos (10 ^ 35)) (omega arith) (omega arith) refl

-- the least multiple from a bound that is raised to the range is the least of the range
pub least_in_range : (level step : ℕ) (bound raised r : ℤ) → level < 16 → step ≡ 10 ^ level → bound ≤ℤ pos (10 ^ 35)
    → bound ≤ℤ raised → neg_ℤ (pos (10 ^ 35)) ≤ℤ raised
    → ((w : ℤ) → neg_ℤ (pos (10 ^ 35)) ≤ℤ w → bound ≤ℤ w → raised ≤ℤ w)
    → IsLeast (λ v. IsMultipleOf step v × (raised ≤ℤ v)) r
    → IsLeast (IsAtOrAfter numbers_ladder level bound) r
least_in_range level step bound raised r within power below above from_low no_more least = record {
  has = record {
    from_low = omega (arith, ints, least.has.1);
    to_high = least.least (pos (10 ^ 35)) (
      rw power (end_on_grid level within),
      no_more (pos (10 ^ 35)) (omega (arith, ints)) below,
    );
    on_grid = rw power at least.has.0;
    reached = omega (arith, ints, least.has.1);
  };
  least = λ w h. least.least w (rw power h.on_grid, no_more w h.from_low h.reached);
}

-- and the greatest up to a bound that is lowered to it is the greatest of the range
pub greatest_in_range : (level step : ℕ) (bound lowered r : ℤ) → level < 16 → step ≡ 10 ^ level
    → neg_ℤ (pos (10 ^ 35)) ≤ℤ bound → lowered ≤ℤ bound → lowered ≤ℤ pos (10 ^ 35)
    → ((w : ℤ) → w ≤ℤ pos (10 ^ 35) → w ≤ℤ bound → w ≤ℤ lowered)
    → IsGreatest (λ v. IsMultipleOf step v × (v ≤ℤ lowered)) r
    → IsGreatest (IsAtOrBefore numbers_ladder level bound) r
greatest_in_range level step bound lowered r within power above below to_high no_less greatest = record {
  has = record {
    from_low = greatest.greatest (neg_ℤ (pos (10 ^ 35))) (
      rw power (end_on_grid level within),
      no_less (neg_ℤ (pos (10 ^ 35))) (omega (arith, ints)) above,
    );
    to_high = omega (arith, ints, greatest.has.1);
    on_grid = rw power at greatest.has.0;
    within = omega (arith, ints, greatest.has.1);
  };
  greatest = λ w h. greatest.greatest w (rw power h.on_grid, no_less w h.to_high h.within);
}

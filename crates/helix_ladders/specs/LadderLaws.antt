-- What the two ladders keep to: coarser grids are parts of finer ones, and what is on a grid is a multiple of its step.
use Rattle.std.proofs.Common.{◌≡◌, ℕ, ◌+◌, ◌-◌, ◌*◌, ◌%◌, ◌^◌, ◌<◌, ◌≤◌, ℤ, true, zero, suc, arith}
use Rattle.std.proofs.Common.{subst}
use Rattle.std.specs.Prelude.{unsigned_abs}
use Rattle.std.specs.Prelude.{◌+ℤ◌, ◌≤ℤ◌}
use Rattle.std.proofs.lemmas.Int.{ints}
use Rattle.std.proofs.lemmas.Bool.{ltb-true}
use Rattle.std.proofs.lemmas.Nat.{pow-add}
use Rattle.std.proofs.Math.Nat.{mod-mod_of_dvd, dvd-mul_left, pow-suc}
use Rattle.helix_ladders.specs.Grids.{IsMultipleOf, IsOnNumberGrid, IsOnMomentGrid, IsMonthStart, IsYearStart}
use Rattle.helix_ladders.specs.Scale.{IsLadder}
use Rattle.helix_ladders.specs.Ladders.{numbers_ladder, moments_ladder}

power_positive : (level : ℕ) → 0 < 10 ^ level
power_positive zero = omega arith
power_positive (suc level) = omega (arith, pow-suc 10 level, power_positive level)

-- a multiple of a product is one of each factor
multiple_of_factor : (m n k : ℕ) → k % (m * n) ≡ 0 → k % n ≡ 0
multiple_of_factor m n k multiple =
    let e : k % (m * n) % n ≡ 0 = rw multiple (omega arith) in
    omega (arith, mod-mod_of_dvd n k (dvd-mul_left n m))

-- each number is on the finest level
pub number_grid_finest : (v : ℤ) → IsOnNumberGrid 0 v
number_grid_finest v = omega arith

-- a number on a level is on each finer one
pub number_grid_coarser : (level finer : ℕ) (v : ℤ) → finer ≤ level → level < 16 → IsOnNumberGrid level v
    → IsOnNumberGrid finer v
number_grid_coarser level finer v below within on =
    let split : level ≡ (level - finer) + finer = omega arith in
    multiple_of_factor (10 ^ (level - finer)) (10 ^ finer) (unsigned_abs v)
    (rw pow-add at (rw split at on))

-- each moment is on the finest level
pub moment_grid_finest : (v : ℤ) → IsOnMomentGrid 0 v
moment_grid_finest v = omega arith

-- a year start is a month start, a month start is a midnight, and so on
year_start_is_month_start : (v : ℤ) → IsYearStart v → IsMonthStart v
year_start_is_month_start v (year, date, start) = (year, 1, date, start)

month_start_is_midnight : (v : ℤ) → IsMonthStart v → IsMultipleOf 86400000 v
month_start_is_midnight v (year, month, date, start) = rw start (omega arith)

next_finer : (level : ℕ) (v : ℤ) → suc level < 7 → IsOnMomentGrid (suc level) v → IsOnMomentGrid level v
next_finer zero v within on = omega arith
next_finer (suc zero) v within on = omega arith
next_finer (suc (suc zero)) v within on = omega arith
next_finer (suc (suc (suc zero))) v within on = omega arith
next_finer (suc (suc (suc (suc zero)))) v within on = month_start_is_midnight v on
next_finer (suc (suc (suc (suc (suc zero))))) v within on = year_start_is_month_start v on
next_finer (suc (suc (suc (suc (suc (suc level)))))) v within on = absurd (omega arith)

finer_by : (steps finer : ℕ) (v : ℤ) → steps + finer < 7 → IsOnMomentGrid (steps + finer) v → IsOnMomentGrid finer v
finer_by zero finer v within on = let none : zero + finer ≡ finer = omega arith in
    subst (λ level. IsOnMomentGrid level v) none on
finer_by (suc steps) finer v within on =
    let next : suc steps + finer ≡ suc (steps + finer) = omega arith in
    finer_by steps finer v (omega arith) (next_finer (steps + finer) v (omega arith)
    (subst (λ level. IsOnMomentGrid level v) next on))

-- a moment on a level is on each finer one
pub moment_grid_coarser : (level finer : ℕ) (v : ℤ) → finer ≤ level → level < 7 → IsOnMomentGrid level v
    → IsOnMomentGrid finer v
moment_grid_coarser level finer v below within on =
    let split : level ≡ (level - finer) + finer = omega arith in
    finer_by (level - finer) finer v (omega arith) (subst (λ l. IsOnMomentGrid l v) split on)

-- the step of each grid of moments
moment_steps : (level : ℕ) (v : ℤ) → level < 7 → IsOnMomentGrid level v → IsMultipleOf (moments_ladder.step level) v
moment_steps zero v within on = on
moment_steps (suc zero) v within on = on
moment_steps (suc (suc zero)) v within on = on
moment_steps (suc (suc (suc zero))) v within on = on
moment_steps (suc (suc (suc (suc zero)))) v within on = on
moment_steps (suc (suc (suc (suc (suc zero))))) v within on = month_start_is_midnight v on
moment_steps (suc (suc (suc (suc (suc (suc zero)))))) v within on =
    month_start_is_midnight v (year_start_is_month_start v on)
moment_steps (suc (suc (suc (suc (suc (suc (suc level))))))) v within on = absurd (omega arith)

moment_regular : (level : ℕ) (v : ℤ) → moments_ladder.is_regular level ≡ true →
    IsMultipleOf (moments_ladder.step level) v → IsOnMomentGrid level v
moment_regular zero v regular multiple = multiple
moment_regular (suc zero) v regular multiple = multiple
moment_regular (suc (suc zero)) v regular multiple = multiple
moment_regular (suc (suc (suc zero))) v regular multiple = multiple
moment_regular (suc (suc (suc (suc zero)))) v regular multiple = multiple
moment_regular (suc (suc (suc (suc (suc level))))) v regular multiple = absurd (omega (arith, ltb-true _ _ regular))

some_moment_step : (level : ℕ) → level < 7 → 0 < moments_ladder.step level
some_moment_step zero within = omega arith
some_moment_step (suc zero) within = omega arith
some_moment_step (suc (suc zero)) within = omega arith
some_moment_step (suc (suc (suc zero))) within = omega arith
some_moment_step (suc (suc (suc (suc zero)))) within = omega arith
some_moment_step (suc (suc (suc (suc (suc zero))))) within = omega arith
some_moment_step (suc (suc (suc (suc (suc (suc zero)))))) within = omega arith
some_moment_step (suc (suc (suc (suc (suc (suc (suc level))))))) within = absurd (omega arith)

-- the numbers keep the laws of a ladder
pub numbers_are_a_ladder : IsLadder numbers_ladder
numbers_are_a_ladder = record {
  low_from = omega (arith, ints);
  high_to = omega (arith, ints);
  finest = λ v above below. number_grid_finest v;
  coarser = number_grid_coarser;
  some = λ level within. power_positive level;
  steps = λ level v within on. on;
  regular = λ level v within regular above below multiple. multiple;
}

-- the moments keep the laws of a ladder
pub moments_are_a_ladder : IsLadder moments_ladder
moments_are_a_ladder = record {
  low_from = omega (arith, ints);
  high_to = omega (arith, ints);
  finest = λ v above below. moment_grid_finest v;
  coarser = moment_grid_coarser;
  some = some_moment_step;
  steps = moment_steps;
  regular = λ level v within regular above below multiple. moment_regular level v regular multiple;
}

-- a sum rises with its first part
pub sum_rises : (offset v w : ℤ) → v ≤ℤ w → (v +ℤ offset) ≤ℤ (w +ℤ offset)
sum_rises offset v w below = omega (arith, ints)

-- Counting working days, and finding the one with a given count.
use Rattle.std.proofs.Common.{◌≡◌, ℕ, zero, suc, ◌+◌, ◌-◌, ◌<◌, ◌≤◌, Bool, true, false, cond, ◌&&◌, ◌==◌, nat_lt, Some, None, refl, ◌∙◌, subst, arith, add-one, add-zero}
use Rattle.std.proofs.lemmas.Bool.Decides.{nat_tests}
use Rattle.helix_ladders.specs.Calendar.{last_below}
use Rattle.helix_ladders.specs.Shift.{is_working_day, working_days_before, is_working_day_after, is_working_day_ahead}
use Rattle.helix_ladders.proofs.Totals.{last_below-some, last_below-none}

pub working_days-suc : (day : ℕ) → working_days_before (suc day)
    ≡ working_days_before day + cond (is_working_day day) 1 0
unfolding working_days_before
working_days-suc day = refl

pub working_days-zero : working_days_before 0 ≡ 0
unfolding working_days_before
working_days-zero = refl

-- a working day counts, another day doesn't
pub counts : (day : ℕ) → is_working_day day ≡ true → working_days_before (day + 1) ≡ working_days_before day + 1
counts day working = rw add-one (working_days-suc day ∙ rw working refl)

pub counts_not : (day : ℕ) → is_working_day day ≡ false → working_days_before (day + 1) ≡ working_days_before day
counts_not day free = rw add-one (working_days-suc day ∙ rw (free, add-zero) refl)

-- the same of the day before
pub counts_back : (day : ℕ) → 0 < day → is_working_day (day - 1) ≡ true
    → working_days_before day ≡ working_days_before (day - 1) + 1
counts_back day later working = let same : day - 1 + 1 ≡ day = omega arith in
    subst (λ d. working_days_before d ≡ working_days_before (day - 1) + 1) same (counts (day - 1) working)

pub counts_not_back : (day : ℕ) → 0 < day → is_working_day (day - 1) ≡ false
    → working_days_before day ≡ working_days_before (day - 1)
counts_not_back day later free = let same : day - 1 + 1 ≡ day = omega arith in
    subst (λ d. working_days_before d ≡ working_days_before (day - 1)) same (counts_not (day - 1) free)

working_days-more : (day more : ℕ) → working_days_before day ≤ working_days_before (day + more)
working_days-more day zero = rw add-zero (omega arith)
working_days-more day (suc more) =
    let same : day + suc more ≡ suc (day + more) = omega arith in
    rw same (omega (arith, working_days-suc (day + more), working_days-more day more))

pub working_days-le : (day later : ℕ) → day ≤ later → working_days_before day ≤ working_days_before later
working_days-le day later below =
    let same : day + (later - day) ≡ later = omega arith in
    subst (λ k. working_days_before day ≤ working_days_before k) same (working_days-more day (later - day))

all_three : (a b c : Bool) → a ≡ true → b ≡ true → c ≡ true → (a && b && c) ≡ true
all_three a b c is_a is_b is_c = rw (is_a, is_b, is_c) refl

third_fails : (a b c : Bool) → c ≡ false → (a && b && c) ≡ false
third_fails true true c fails = fails
third_fails true false c fails = refl
third_fails false b c fails = refl

second_fails : (a b c : Bool) → b ≡ false → (a && b && c) ≡ false
second_fails true b c fails = rw fails refl
second_fails false b c fails = refl

lt_true : (a b : ℕ) → a < b → nat_lt a b ≡ true
lt_true a b below = grind (arith, nat_tests)

eq_true : (a b : ℕ) → a ≡ b → (a == b) ≡ true
eq_true a b same = grind (arith, nat_tests)

eq_false_below : (a b : ℕ) → a < b → (a == b) ≡ false
eq_false_below a b below = grind (arith, nat_tests)

eq_false_above : (a b : ℕ) → b < a → (a == b) ≡ false
eq_false_above a b above = grind (arith, nat_tests)

-- what holds whether a day is a working day or not
by_day : {P : Type 0} (day : ℕ) → (is_working_day day ≡ true → P) → (is_working_day day ≡ false → P) → P
by_day {P} day working free = elim (is_working_day day) as (λ b. is_working_day day ≡ b
    → P) [ true ↦ working | false ↦ free ] refl

module _ (count day : ℕ) where
  -- the working day at which the count is reached is the one
  pub found_later : (limit later : ℕ) → day < later → later < limit → is_working_day later ≡ true
      → working_days_before (later + 1) ≡ working_days_before (day + 1) + count
      → last_below (is_working_day_after count day) limit ≡ Some later
  found_later limit later above within working reached =
      last_below-some (is_working_day_after count day) limit later within
      (all_three _ _ _ (lt_true day later above) working (eq_true _ _ reached))
      (λ j beyond inside.
      by_day j
      (λ works.
      third_fails (nat_lt day j) (is_working_day j) _
      (eq_false_above (working_days_before (j + 1)) (working_days_before (day + 1) + count)
      (omega (arith, counts j works, working_days-le (later + 1) j (omega arith)))))
      (λ free. second_fails (nat_lt day j) (is_working_day j) _ free))

  -- there is none where the count isn't reached
  pub none_later : (limit : ℕ) → working_days_before limit < working_days_before (day + 1) + count
      → last_below (is_working_day_after count day) limit ≡ None
  none_later limit short =
      last_below-none (is_working_day_after count day) limit
      (λ j inside.
      third_fails (nat_lt day j) (is_working_day j) _
      (eq_false_below (working_days_before (j + 1)) (working_days_before (day + 1) + count) (omega (
        arith,
        working_days-le (j + 1) limit (omega arith),
      ))))

  -- the same towards the past
  pub found_earlier : (limit earlier : ℕ) → earlier < day → day < limit → is_working_day earlier ≡ true
      → working_days_before earlier + count ≡ working_days_before day
      → last_below (is_working_day_ahead count day) limit ≡ Some earlier
  found_earlier limit earlier below within working reached =
      last_below-some (is_working_day_ahead count day) limit earlier (omega arith)
      (all_three _ _ _ (lt_true earlier day below) working (eq_true _ _ reached))
      (λ j beyond inside.
      third_fails (nat_lt j day) (is_working_day j) _
      (eq_false_above (working_days_before j + count) (working_days_before day)
      (omega (arith, counts earlier working, working_days-le (earlier + 1) j (omega arith)))))

  pub none_earlier : (limit : ℕ) → working_days_before day < count
      → last_below (is_working_day_ahead count day) limit ≡ None
  none_earlier limit short =
      last_below-none (is_working_day_ahead count day) limit
      (λ j inside. third_fails (nat_lt j day) (is_working_day j) _
      (eq_false_above (working_days_before j + count) (working_days_before day) (omega arith)))

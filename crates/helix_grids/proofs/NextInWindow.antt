-- The least value of a window above one of its values.
use Rattle.std.proofs.Common.{rules, ◌≡◌, ◌+◌, ◌<◌, ◌≤◌, ◌^◌, true, ℕ, ℤ, pos, neg_ℤ, ◌+ℤ◌, ◌≤ℤ◌, ◌<ℤ◌, Option, FitsSigned, arith}
use Rattle.std.specs.Int.{w128}
use Rattle.std.specs.Option.{IfSome}
use Rattle.std.proofs.lemmas.Int.{ints}
use Rattle.helix_ladders.specs.Scale.{Ladder, IsLadder, IsLeast}
use Rattle.helix_grids.specs.declared.window.Window.{Window}
use Rattle.helix_grids.specs.Tests.{IsLeastOf}
use Rattle.helix_grids.specs.Inner.Window.{IsInWindow, IsWindowOf}
use Rattle.helix_grids.proofs.LeastValues.{least_of_same}
use Rattle.helix_grids.proofs.OnAndOff.{beyond}
use Rattle.helix_grids.proofs.NextMultiple.{next_is_multiple, next_is_least}

-- a number of 128 bits, since the range of a ladder ends before them
fits_above : (value : ℤ) (n : ℕ) → neg_ℤ (pos (2 ^ 126)) ≤ℤ value → value ≤ℤ pos (2 ^ 126) → n ≤ 2 ^ 65 →
    FitsSigned w128 (value +ℤ pos n)
fits_above value n low high small = search (rules, ints)

pub value_fits : (ladder : Ladder) → IsLadder ladder → (window : Window) → IsWindowOf ladder window → (value : ℤ) →
    IsInWindow ladder window value → (n : ℕ) → n ≤ 2 ^ 65 → FitsSigned w128 (value +ℤ pos n)
value_fits ladder is_ladder window of value inside n small =
    fits_above value n (omega (arith, ints, inside.from_least, of.from_low, is_ladder.low_from))
    (omega (arith, ints, inside.to_most, of.to_high, is_ladder.high_to)) small

-- so has the number after one that is a step above a value
pub next_fits_on : (ladder : Ladder) → IsLadder ladder → (window : Window) → IsWindowOf ladder window →
    (value next : ℤ) → IsInWindow ladder window value → (step : ℕ) → next ≡ value +ℤ pos step → step < 2 ^ 64 →
    FitsSigned w128 (next +ℤ pos 1)
next_fits_on ladder is_ladder window of value next inside step is small =
    let sum : next +ℤ pos 1 ≡ value +ℤ pos (step + 1) = omega (arith, ints) in
    rw sum (value_fits ladder is_ladder window of value inside (step + 1) (omega arith))

module _ (ladder : Ladder) (is_ladder : IsLadder ladder) (window : Window) (of : IsWindowOf ladder window)
    (regular : ladder.is_regular window.on ≡ true) (value next : ℤ) (inside : IsInWindow ladder window value)
    (is : next ≡ value +ℤ pos (ladder.step window.on)) where
  some : 0 < ladder.step window.on
  some = is_ladder.some window.on of.on_level

  -- no value of the window lies between one and the next multiple of the step
  from_next_multiple : (v : ℤ) → IsInWindow ladder window v → (value +ℤ pos 1) ≤ℤ v → next ≤ℤ v
  from_next_multiple v has above =
      omega (
        arith,
        ints,
        next_is_least (ladder.step window.on) some value v
            (is_ladder.steps window.on value of.on_level inside.on_grid)
            (is_ladder.steps window.on v of.on_level has.on_grid)
            (omega (arith, ints)),
      )

  pub none_next : window.most <ℤ next → (v : ℤ) → ¬ (IsInWindow ladder window v × ((value +ℤ pos 1) ≤ℤ v))
  none_next past v has = absurd (omega (arith, ints, from_next_multiple v has.0 has.1, has.0.to_most))

  pub next_on : next ≤ℤ window.most → ladder.IsOn window.on next
  next_on within =
      is_ladder.regular window.on next of.on_level regular (omega (arith, ints, inside.from_least, of.from_low, some))
      (omega (arith, ints, of.to_high))
      (rw is (next_is_multiple (ladder.step window.on) some value
      (is_ladder.steps window.on value of.on_level inside.on_grid)))

  -- the next multiple is the answer where it isn't on the level that is left out
  pub next_least : next ≤ℤ window.most → IfSome window.off (λ level. ¬ ladder.IsOn level next) →
      IsLeast (λ v. IsInWindow ladder window v × ((value +ℤ pos 1) ≤ℤ v)) next
  next_least within off = record {
    has = (
      record {
        from_least = omega (arith, ints, inside.from_least, some);
        to_most = within;
        on_grid = next_on within;
        off_grid = off;
      },
      omega (arith, ints, some),
    );
    least = λ v has. from_next_multiple v has.0 has.1;
  }

  -- and else the answer lies above it
  pub next_later : (answer : Option ℤ) → ¬ IfSome window.off (λ level. ¬ ladder.IsOn level next) →
      IsLeastOf (λ v. IsInWindow ladder window v × ((next +ℤ pos 1) ≤ℤ v)) answer →
      IsLeastOf (λ v. IsInWindow ladder window v × ((value +ℤ pos 1) ≤ℤ v)) answer
  next_later answer on = least_of_same _ _ answer
      (λ v has. (has.0, omega (arith, ints, has.1, some)))
      (λ v has. (has.0, above v has.0 (from_next_multiple v has.0 has.1)))
    where
      above : (v : ℤ) → IsInWindow ladder window v → next ≤ℤ v → (next +ℤ pos 1) ≤ℤ v
      above v has reached = omega (
        arith,
        ints,
        beyond next v (λ w. ¬ IfSome window.off (λ level. ¬ ladder.IsOn level w)) on (λ out. out has.off_grid)
            reached,
      )

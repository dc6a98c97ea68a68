-- Multiples of a unit of time are the values of its grid.
use Rattle.std.proofs.Common.{◌≡◌, ℕ, ◌%◌, ◌≤◌, ℤ, pos, ◌≤ℤ◌, true, arith}
use Rattle.std.specs.Prelude.{nat_lt, slice_index}
use Rattle.std.proofs.lemmas.Bool.{lt-ltb}
use Rattle.std.proofs.lemmas.Int.{ints}
use Rattle.std.proofs.Math.Nat.{zero-mod}
use Rattle.helix_ladders.specs.Calendar.{last_moment}
use Rattle.helix_ladders.specs.Grids.{IsMultipleOf, IsOnMomentGrid, units_of_time}
use Rattle.helix_ladders.specs.Ladders.{moments_ladder}
use Rattle.helix_ladders.specs.Scale.{IsGreatest, IsAtOrBefore}

module _ (level : ℕ) (unit : level ≤ 4) where
  is_unit : nat_lt level 5 ≡ true
  is_unit = lt-ltb level 5 (omega arith)

  on_unit : (v : ℤ) → IsMultipleOf (slice_index units_of_time level) v → IsOnMomentGrid level v
  on_unit v multiple = rw is_unit multiple

  off_unit : (v : ℤ) → IsOnMomentGrid level v → IsMultipleOf (slice_index units_of_time level) v
  off_unit v on = rw is_unit at on

  -- the greatest multiple of a unit of time up to a moment
  pub unit_greatest : (to r : ℤ) → pos 0 ≤ℤ to → to ≤ℤ pos last_moment
      → IsGreatest (λ v. IsMultipleOf (slice_index units_of_time level) v × (v ≤ℤ to)) r
      → IsGreatest (IsAtOrBefore moments_ladder level to) r
  unit_greatest to r begun ends greatest = record {
    has = record {
      from_low = greatest.greatest (pos 0) (zero-mod (slice_index units_of_time level), begun);
      to_high = omega (arith, ints, greatest.has.1);
      on_grid = on_unit r greatest.has.0;
      within = greatest.has.1;
    };
    greatest = λ w h. greatest.greatest w (off_unit w h.on_grid, h.within);
  }

-- A bound that is brought into the range finds the same value.
use Rattle.std.proofs.Common.{◌≡◌, ℕ, ℤ, ◌≤ℤ◌, Option, Some, None, IfSome, IfNone}
use Rattle.helix_ladders.specs.Scale.{Ladder, IsLeast, IsGreatest, IsAtOrAfter, IsAtOrBefore}

module _ (ladder : Ladder) (level : ℕ) (bound : ℤ) where
  module _ (raised : ℤ) (no_more : (w : ℤ) → ladder.low ≤ℤ w → bound ≤ℤ w → raised ≤ℤ w)
      (transitive : (v : ℤ) → raised ≤ℤ v → bound ≤ℤ v) where
    least_raised : (r : ℤ) → IsLeast (IsAtOrAfter ladder level raised) r → IsLeast (IsAtOrAfter ladder level bound) r
    least_raised r least = record {
      has = record {
        from_low = least.has.from_low;
        to_high = least.has.to_high;
        on_grid = least.has.on_grid;
        reached = transitive r least.has.reached;
      };
      least = λ w h. least.least w (record {
        from_low = h.from_low;
        to_high = h.to_high;
        on_grid = h.on_grid;
        reached = no_more w h.from_low h.reached;
      });
    }

    pub some_raised : (o : Option ℤ) → IfSome o (IsLeast (IsAtOrAfter ladder level raised))
        → IfSome o (IsLeast (IsAtOrAfter ladder level bound))
    some_raised None is = is
    some_raised (Some r) is = least_raised r is

    pub none_raised : (o : Option ℤ) → IfNone o ((v : ℤ) → ¬ (IsAtOrAfter ladder level raised v))
        → IfNone o ((v : ℤ) → ¬ (IsAtOrAfter ladder level bound v))
    none_raised None none = λ v h. none v (record {
      from_low = h.from_low;
      to_high = h.to_high;
      on_grid = h.on_grid;
      reached = no_more v h.from_low h.reached;
    })
    none_raised (Some r) none = none

  module _ (lowered : ℤ) (no_less : (w : ℤ) → w ≤ℤ ladder.high → w ≤ℤ bound → w ≤ℤ lowered)
      (transitive : (v : ℤ) → v ≤ℤ lowered → v ≤ℤ bound) where
    pub greatest_lowered : (r : ℤ) → IsGreatest (IsAtOrBefore ladder level lowered) r
        → IsGreatest (IsAtOrBefore ladder level bound) r
    greatest_lowered r greatest = record {
      has = record {
        from_low = greatest.has.from_low;
        to_high = greatest.has.to_high;
        on_grid = greatest.has.on_grid;
        within = transitive r greatest.has.within;
      };
      greatest = λ w h. greatest.greatest w (record {
        from_low = h.from_low;
        to_high = h.to_high;
        on_grid = h.on_grid;
        within = no_less w h.to_high h.within;
      });
    }

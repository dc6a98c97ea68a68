-- What a shift of values is asked for.
use Rattle.std.specs.Prelude.{ℤ, ◌≤ℤ◌}

-- a value from `low` to `high` whose result isn't below a target
pub record IsShiftedTo (low high : ℤ) (applied : ℤ → ℤ) (target v : ℤ) : Type 0 where
  pub from_low : low ≤ℤ v
  pub to_high : v ≤ℤ high
  pub reached : target ≤ℤ applied v

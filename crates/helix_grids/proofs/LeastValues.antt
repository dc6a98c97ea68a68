-- The least number of a set, and of a set with the same numbers.
use Rattle.std.proofs.Common.{ℕ, ℤ, pos, ◌+ℤ◌, ◌≤ℤ◌, ◌<ℤ◌, Option, Some, None, arith}
use Rattle.std.proofs.lemmas.Int.{ints}
use Rattle.helix_ladders.specs.Scale.{Ladder, IsLeast, IsAtOrAfter}
use Rattle.helix_grids.specs.Tests.{IsLeastOf}
use Rattle.helix_grids.specs.Inner.Window.{IsBetween}

-- what holds of the least number of one set holds of that of another, if both have the same numbers
pub least_of_same : (P Q : ℤ → Type 0) (answer : Option ℤ) → ((v : ℤ) → P v → Q v) → ((v : ℤ) → Q v → P v) →
    IsLeastOf P answer → IsLeastOf Q answer
least_of_same P Q None to from none = λ v has. none v (from v has)
least_of_same P Q (Some w) to from least = record { has = to w least.has; least = λ v has. least.least v (from v has) }

-- the least number above a value, and that from the next number on
pub from_next : (P : ℤ → Type 0) (value : ℤ) (answer : Option ℤ)
    → IsLeastOf (λ v. P v × ((value +ℤ pos 1) ≤ℤ v)) answer →
    IsLeastOf (λ v. P v × (value <ℤ v)) answer
from_next P value answer = least_of_same _ _ answer (λ v has. (has.0, omega (arith, ints, has.1))) (λ v has. (
  has.0,
  omega (arith, ints, has.1),
))

-- the least value of a level is the least one up to a smaller bound than the range's, if it isn't above that
pub least_within : (ladder : Ladder) (level : ℕ) (most bound v : ℤ) → most ≤ℤ ladder.high →
    IsLeast (IsAtOrAfter ladder level bound) v → v ≤ℤ most
    → IsLeast (IsBetween ladder.low most (ladder.IsOn level) bound) v
least_within ladder level most bound v range least below = record {
  has = record {
    from_low = least.has.from_low;
    to_most = below;
    on_grid = least.has.on_grid;
    reached = least.has.reached;
  };
  least = λ w has. least.least w (record {
    from_low = has.from_low;
    to_high = omega (arith, ints, has.to_most, range);
    on_grid = has.on_grid;
    reached = has.reached;
  });
}

-- What a ladder of grids is, and what it is asked for.
use Rattle.std.specs.Prelude.{◌≡◌, ℕ, ◌<◌, ◌≤◌, ◌^◌, ℤ, pos, neg_ℤ, ◌≤ℤ◌, Bool, true, IsTrue}
use Rattle.helix_ladders.specs.Grids.{IsMultipleOf}

-- a range of whole numbers with grids on it: how many there are, which values are on each, the step of each, and
-- which of them have all multiples of their steps
pub record Ladder : Type 1 where
  pub low : ℤ
  pub high : ℤ
  pub levels : ℕ
  pub IsOn : ℕ → ℤ → Type 0
  pub step : ℕ → ℕ
  pub is_regular : ℕ → Bool

-- what holds of each ladder: level 0 has every value of the range, what is on a level is on each lower one, the
-- values on a level are multiples of its step, and where it is regular the multiples of the range are its values
pub record IsLadder (ladder : Ladder) : Type 0 where
  pub low_from : neg_ℤ (pos (2 ^ 126)) ≤ℤ ladder.low
  pub high_to : ladder.high ≤ℤ pos (2 ^ 126)
  pub finest : (v : ℤ) → ladder.low ≤ℤ v → v ≤ℤ ladder.high → ladder.IsOn 0 v
  pub coarser : (level finer : ℕ) (v : ℤ) → finer ≤ level → level < ladder.levels →
      ladder.IsOn level v → ladder.IsOn finer v
  pub some : (level : ℕ) → level < ladder.levels → 0 < ladder.step level
  pub steps : (level : ℕ) (v : ℤ) → level < ladder.levels → ladder.IsOn level v → IsMultipleOf (ladder.step level) v
  pub regular : (level : ℕ) (v : ℤ) → level < ladder.levels → ladder.is_regular level ≡ true →
      ladder.low ≤ℤ v → v ≤ℤ ladder.high → IsMultipleOf (ladder.step level) v → ladder.IsOn level v

-- a value of the ladder on a level that isn't below the bound
pub record IsAtOrAfter (ladder : Ladder) (level : ℕ) (bound v : ℤ) : Type 0 where
  pub from_low : ladder.low ≤ℤ v
  pub to_high : v ≤ℤ ladder.high
  pub on_grid : ladder.IsOn level v
  pub reached : bound ≤ℤ v

-- a value of the ladder on a level that isn't above the bound
pub record IsAtOrBefore (ladder : Ladder) (level : ℕ) (bound v : ℤ) : Type 0 where
  pub from_low : ladder.low ≤ℤ v
  pub to_high : v ≤ℤ ladder.high
  pub on_grid : ladder.IsOn level v
  pub within : v ≤ℤ bound

-- the least number of a set
pub record IsLeast (Has : ℤ → Type 0) (v : ℤ) : Type 0 where
  pub has : Has v
  pub least : (w : ℤ) → Has w → v ≤ℤ w

-- the greatest number of a set
pub record IsGreatest (Has : ℤ → Type 0) (v : ℤ) : Type 0 where
  pub has : Has v
  pub greatest : (w : ℤ) → Has w → w ≤ℤ v

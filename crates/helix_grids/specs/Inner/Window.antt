-- What bounds and grids leave of a ladder.
use Rattle.std.specs.Prelude.{ℕ, ℤ, ◌<◌, ◌≤ℤ◌, IfSome}
use Rattle.helix_ladders.specs.Scale.{Ladder}
use Rattle.helix_grids.specs.declared.window.Window.{Window}

-- a value from `least` to `most` that is on one grid and off another
pub record IsInWindow (ladder : Ladder) (window : Window) (v : ℤ) : Type 0 where
  pub from_least : window.least ≤ℤ v
  pub to_most : v ≤ℤ window.most
  pub on_grid : ladder.IsOn window.on v
  pub off_grid : IfSome window.off (λ level. ¬ ladder.IsOn level v)

-- a value of a ladder on a level
pub record IsOfLevel (ladder : Ladder) (level : ℕ) (v : ℤ) : Type 0 where
  pub from_low : ladder.low ≤ℤ v
  pub to_high : v ≤ℤ ladder.high
  pub on_level : ladder.IsOn level v

-- a window that lies in a ladder's range, with levels of the ladder
pub record IsWindowOf (ladder : Ladder) (window : Window) : Type 0 where
  pub from_low : ladder.low ≤ℤ window.least
  pub to_high : window.most ≤ℤ ladder.high
  pub on_level : window.on < ladder.levels
  pub off_level : IfSome window.off (λ level. level < ladder.levels)

-- a value of a set that lies from `low` and a bound to `most`
pub record IsBetween (low most : ℤ) (On : ℤ → Type 0) (bound v : ℤ) : Type 0 where
  pub from_low : low ≤ℤ v
  pub to_most : v ≤ℤ most
  pub on_grid : On v
  pub reached : bound ≤ℤ v

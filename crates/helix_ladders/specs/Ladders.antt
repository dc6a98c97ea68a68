-- The two ladders.
use Rattle.std.specs.Prelude.{◌^◌, ℕ, ℤ, pos, neg_ℤ, min, nat_lt, true, slice_index}
use Rattle.helix_ladders.specs.Grids.{IsOnNumberGrid, IsOnMomentGrid, units_of_time}
use Rattle.helix_ladders.specs.Calendar.{last_moment}
use Rattle.helix_ladders.specs.Scale.{Ladder}

-- the numbers from -10^20 to 10^20 in units of 10^-15, on the powers of ten
abbrev pub numbers_ladder : Ladder
numbers_ladder = record {
  low = neg_ℤ (pos (10 ^ 35));
  high = pos (10 ^ 35);
  levels = 16;
  IsOn = IsOnNumberGrid;
  step = λ level. 10 ^ level;
  is_regular = λ level. true;
}

-- the milliseconds of the years 1 to 9999, on the units of time; months and years begin at midnights
abbrev pub moments_ladder : Ladder
moments_ladder = record {
  low = pos 0;
  high = pos last_moment;
  levels = 7;
  IsOn = IsOnMomentGrid;
  step = λ level. slice_index units_of_time (min level 4);
  is_regular = λ level. nat_lt level 5;
}

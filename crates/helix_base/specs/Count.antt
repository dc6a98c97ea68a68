-- Counts of the type u64 that never wrap.
use Rattle.std.specs.Prelude.{ℕ, ◌+◌, min}

-- the last value of a count, 2 ^ 64 - 1
abbrev pub last_count : ℕ
last_count = 0xFFFF_FFFF_FFFF_FFFF

-- one higher, or still the last value
abbrev pub raised : ℕ → ℕ
raised count = min (count + 1) last_count

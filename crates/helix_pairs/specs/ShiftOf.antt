-- The offsets by which the values of a range can be shifted.
use Rattle.std.specs.Prelude.{◌≡◌, ◌≤◌, ◌^◌, ℤ, pos, unsigned_abs, ◌≤ℤ◌}
use Rattle.helix_ladders.specs.Calendar.{last_moment}
use Rattle.helix_ladders.specs.declared.offset.Offset.{Offset}
use Rattle.helix_ladders.specs.declared.offset.Offset.TheVariants as offset
use Rattle.helix_shift.specs.DayOffset.{IsDayOffset}

-- values and units within 10^36, or the moments with an offset by months, years or working days
abbrev pub IsShiftOf : ℤ → ℤ → Offset → Type 0
IsShiftOf low high (offset.Plain units) = (low ≤ℤ high) × (unsigned_abs low ≤ 10 ^ 36) × (unsigned_abs high ≤ 10 ^ 36)
    × (unsigned_abs units ≤ 10 ^ 36)
IsShiftOf low high other = (low ≡ pos 0) × (high ≡ pos last_moment) × IsDayOffset other

-- The range and the results of a shift by an offset of either kind.
use Rattle.std.specs.Prelude.{ℤ, pos, ◌+ℤ◌}
use Rattle.helix_ladders.specs.Calendar.{last_moment}
use Rattle.helix_ladders.specs.Shift.{shifted}
use Rattle.helix_pairs.specs.declared.offset_shift.OffsetShift.{OffsetShift}
use Rattle.helix_pairs.specs.declared.offset_shift.OffsetShift.TheVariants.{Sum, Days}

-- the least value that is shifted
abbrev pub low_of : OffsetShift → ℤ
low_of (Sum sum) = sum.low
low_of (Days by) = pos 0

-- and the greatest one
abbrev pub high_of : OffsetShift → ℤ
high_of (Sum sum) = sum.high
high_of (Days by) = pos last_moment

-- a sum, or the first millisecond of a day
abbrev pub applied_by : OffsetShift → ℤ → ℤ
applied_by (Sum sum) v = v +ℤ sum.offset
applied_by (Days by) v = shifted by v

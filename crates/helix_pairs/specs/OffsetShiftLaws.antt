-- Shifts by offsets keep the order of values.
use Rattle.std.proofs.Common.{ℤ, ◌≤ℤ◌}
use Rattle.helix_ladders.specs.LadderLaws.{sum_rises}
use Rattle.helix_shift.specs.ShiftLaws.{shifted_rises}
use Rattle.helix_pairs.specs.OffsetShift.{applied_by}
use Rattle.helix_pairs.specs.declared.offset_shift.OffsetShift.{OffsetShift}
use Rattle.helix_pairs.specs.declared.offset_shift.OffsetShift.TheVariants.{Sum, Days}

pub applied_rises : (shift : OffsetShift) (v w : ℤ) → v ≤ℤ w → applied_by shift v ≤ℤ applied_by shift w
applied_rises (Sum sum) v w below = sum_rises sum.offset v w below
applied_rises (Days by) v w below = shifted_rises by v w below

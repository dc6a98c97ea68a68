-- Offsets that lead to the first millisecond of a day.
use Rattle.std.specs.Prelude.{◌≤◌, unsigned_abs}
use Rattle.helix_ladders.specs.declared.offset.Offset.{Offset}
use Rattle.helix_ladders.specs.declared.offset.Offset.TheVariants.{Plain, Months, Years, WorkingDays}

-- an offset by months, years or working days, by no more of them than the calendar has
abbrev pub IsDayOffset : Offset → Type 0
IsDayOffset (Plain units) = ⊥
IsDayOffset (Months count) = unsigned_abs count ≤ 119988
IsDayOffset (Years count) = unsigned_abs count ≤ 9999
IsDayOffset (WorkingDays count) = unsigned_abs count ≤ 3652059

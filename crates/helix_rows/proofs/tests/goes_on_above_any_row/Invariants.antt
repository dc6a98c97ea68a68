use Rattle.std.proofs.Common.{◌≡◌, length}
use Rattle.std.specs.List.{All}
use Rattle.helix_values.specs.Slot.{FitsSlot}
use Rattle.helix_rows.specs.Inner.Listing.{AreNumbers, AreOfTwo}
use Rattle.helix_rows.proofs.tests.goes_on_above_any_row.Given as goal

abbrev pub invariant-loop-place : goal.invariant-loop-place
invariant-loop-place g l = record {
  fields : l.walk.fields ≡ 4;
  parts : AreOfTwo l.walk.parts;
  count : length l.row ≡ 4;
  fit : All FitsSlot l.row;
  numbers : AreNumbers l.row;
  out : length l.out ≡ 4;
}

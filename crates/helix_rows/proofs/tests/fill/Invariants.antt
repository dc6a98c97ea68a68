use Rattle.std.proofs.Common.{◌≡◌, length}
use Rattle.std.specs.List.{All}
use Rattle.helix_values.specs.Slot.{FitsSlot}
use Rattle.helix_rows.specs.Inner.Listing.{AreNumbers}
use Rattle.helix_rows.proofs.tests.fill.Given as goal

abbrev pub invariant-loop-field : goal.invariant-loop-field
invariant-loop-field l = record {
  count : length l.row ≡ 4;
  fit : All FitsSlot l.row;
  numbers : AreNumbers l.row;
}

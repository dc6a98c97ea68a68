use Rattle.std.proofs.Common.{◌≡◌, length, take}
use Rattle.helix_rows.proofs.copy.copy_row.Given as goal

abbrev pub invariant-loop-field : goal.invariant-loop-field
invariant-loop-field l = record {
  count : length l.to ≡ length l.from;
  same : take l.field l.to ≡ take l.field l.from;
}

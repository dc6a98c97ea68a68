use Rattle.std.proofs.Common.{◌≡◌, ℕ, ◌<◌, length, slice_index_or}
use Rattle.helix_rows.specs.Inner.Levels.{IsLevel}
use Rattle.helix_rows.proofs.layout.layout_of.Given as goal

abbrev pub invariant-loop-field : goal.invariant-loop-field
invariant-loop-field l = record {
  count : length l.levels ≡ l.field;
  levels : (field : ℕ) → field < l.field
      → IsLevel l.fn.parts field (slice_index_or l.levels field (record { part = 0; position = 0 }));
}

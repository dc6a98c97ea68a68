use Rattle.std.proofs.Common.{◌≡◌, ◌*◌, ◌≤◌, take, vec_len, vec_capacity}
use Rattle.helix_output.specs.Csv.{csv_cells}
use Rattle.helix_output.specs.Inner.Cells.{AreJoined}
use Rattle.helix_output.specs.Inner.Room.{AreShort, cell_room}
use Rattle.helix_output.proofs.csv_lines.put_cells.Given as goal

abbrev pub invariant-loop-i : goal.invariant-loop-i
invariant-loop-i l = record {
  begun : AreJoined (take l.i (csv_cells l.fields l.row)) l.bytes.items l.ends.items;
  short : AreShort 0 l.ends.items;
  len : vec_len l.bytes ≤ cell_room * l.i;
  ends_len : vec_len l.ends ≡ l.i;
  capacity : vec_capacity l.initial.bytes ≤ vec_capacity l.bytes;
  ends_capacity : vec_capacity l.initial.ends ≤ vec_capacity l.ends;
}

use Rattle.std.proofs.Common.{◌≡◌, ℕ, List, length}
use Rattle.csv.specs.Reading.{strip_bom}
use Rattle.helix_sets.specs.SetFiles.{without_marks, AreMembers}
use Rattle.helix_sets.specs.Inner.Reading.{HasRead}
use Rattle.helix_sets.proofs.set_file.listed.Given as goal

abbrev pub invariant-loop-count : goal.invariant-loop-count
invariant-loop-count l = record {
  rows : List (List (List ℕ));
  read : HasRead (strip_bom (without_marks l.fn.bytes)) rows l.reader;
  count : length rows ≡ l.count;
  members : AreMembers l.kind rows l.cells;
}

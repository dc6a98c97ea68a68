use Rattle.std.proofs.Common.{◌≡◌, length}
use Rattle.helix_rows.specs.Inner.Listing.{AreOfTwo}
use Rattle.helix_rows.proofs.tests.goes_on_from.Given as goal

abbrev pub invariant-loop-index : goal.invariant-loop-index
invariant-loop-index l = record {
  fields : l.walk.fields ≡ 4;
  parts : AreOfTwo l.walk.parts;
  count : length l.out ≡ 4;
}

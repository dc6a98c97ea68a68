use Rattle.std.proofs.Common.{◌≡◌, take}
use Rattle.helix_grids.proofs.test.copy_tests.Given as goal

abbrev pub invariant-loop-test : goal.invariant-loop-test
invariant-loop-test l = l.copies.items ≡ take l.test-index l.tests

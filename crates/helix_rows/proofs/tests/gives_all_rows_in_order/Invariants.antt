use Rattle.std.proofs.Common.{◌≡◌}
use Rattle.helix_rows.proofs.tests.gives_all_rows_in_order.Given as goal

abbrev pub invariant-loop-index : goal.invariant-loop-index
invariant-loop-index g l = l.walk.fields ≡ 4

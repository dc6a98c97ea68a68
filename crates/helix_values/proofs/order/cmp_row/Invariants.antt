use Rattle.std.proofs.Common.{◌≡◌, drop}
use Rattle.helix_values.specs.Order.{row_cmp}
use Rattle.helix_values.proofs.order.cmp_row.Given as goal

abbrev pub invariant-loop-i : goal.invariant-loop-i
invariant-loop-i l = row_cmp (drop l.i l.a) (drop l.i l.b) ≡ row_cmp l.a l.b

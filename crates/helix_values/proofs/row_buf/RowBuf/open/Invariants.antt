use Rattle.std.proofs.Common.{◌≡◌}
use Rattle.std.specs.Prelude.{replicate}
use Rattle.helix_values.specs.declared.cell.Cell.TheVariants.{Null}
use Rattle.helix_values.proofs.row_buf.RowBuf.open.Given as goal

abbrev pub invariant-loop : goal.invariant-loop
invariant-loop l = l.slots.items ≡ replicate l.counter Null

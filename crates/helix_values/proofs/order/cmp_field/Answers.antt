use Rattle.std.proofs.Common.{arith}
use Rattle.helix_values.specs.declared.cell.Cell.TheVariants.{Null}
use Rattle.helix_values.proofs.Lexicographic.{comparable-length, comparable_at}
use Rattle.helix_values.proofs.order.cmp_field.Goals as goal

pub slot-requires-2 : goal.slot-requires-2
slot-requires-2 c = omega (arith, comparable-length c.args.a.now c.args.b.now c.requires.rows)

pub cmp_cell-requires : goal.cmp_cell-requires
cmp_cell-requires c =
    rw (c.view.ensures, c.view-2.ensures, c.slot.ensures, c.slot-2.ensures)
    (comparable_at c.args.a.now c.args.b.now c.args.i Null Null c.requires.rows c.requires.field)

use Rattle.std.proofs.Common.{arith, sym, ◌∙◌}
use Rattle.helix_values.specs.declared.cell.Cell.TheVariants.{Null}
use Rattle.helix_values.proofs.Lexicographic.{comparable-length, differ_here, equal_here, none_differ}
use Rattle.helix_values.proofs.order.cmp_row.Goals as goal

pub returns-in_default : goal.returns-in_default
returns-in_default c =
    differ_here c.args.a.now c.args.b.now c.loop-i.i Null (omega arith)
    (omega (arith, comparable-length c.args.a.now c.args.b.now c.requires)) c.loop-i.invariant
    c.cmp_field.result c.cmp_field.ensures c.in_default.not-Equal

pub loop-i-preserved : goal.loop-i-preserved
loop-i-preserved c =
    equal_here c.args.a.now c.args.b.now c.loop-i.i Null (omega arith)
    (omega (arith, comparable-length c.args.a.now c.args.b.now c.requires)) c.loop-i.invariant
    (sym c.in-Equal.is ∙ c.cmp_field.ensures)

pub returns : goal.returns
returns c = none_differ _ _ c.loop-i.i (omega arith) (omega (
  arith,
  comparable-length c.args.a.now c.args.b.now c.requires,
)) c.loop-i.invariant

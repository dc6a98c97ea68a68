use Rattle.std.proofs.Common.{◌+◌, List, length, sym, subst, arith}
use Rattle.helix_values.specs.declared.cell.Cell.{Cell}
use Rattle.helix_token.proofs.Faulty.{HasRead, HasRead-more, no_text, some_cell}
use Rattle.helix_token.proofs.cells.row_of.Goals as goal

pub loop-i-preserved : goal.loop-i-preserved
loop-i-preserved c =
    let found = some_cell c.index-fields-i.result c.index-strings-i.result _ c.in_ok-cell.field-0 c.in-Some.cell
    c.in-Some.is c.in_ok-cell.ensures in
    subst (λ (row : List Cell). HasRead c.args.fields.now c.args.strings.now row (c.loop-i.i + 1))
    (sym c.in_ok-push.ensures.ok)
    (HasRead-more c.args.fields.now c.args.strings.now c.loop-i.row c.loop-i.i c.index-fields-i.result
    c.index-strings-i.result c.in-Some.cell (omega arith) c.loop-i-test.true c.index-fields-i.is c.index-strings-i.is
    c.loop-i.invariant found.0 found.1)

pub returns-then-strings-fields-clause-fault : goal.returns-then-strings-fields-clause-fault
returns-then-strings-fields-clause-fault c = λ apart. record {
  here = no_text c.args.fields.now c.args.strings.now (length c.args.strings.now) (omega arith)
      c.if-strings-fields.true;
  before = λ k below. c.loop-i.invariant.before k (omega (arith, c.loop-i-test.false));
}

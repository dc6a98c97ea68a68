use Rattle.std.proofs.Common.{Option, List, subst, sym, take, ◌+◌}
use Rattle.helix_operands.proofs.MemberValues.{next_value, not_values}
use Rattle.helix_operands.specs.Values.{AreValues, GivesValue, Reads}
use Rattle.helix_values.specs.declared.cell.Cell.{Cell}
use Rattle.helix_operands.proofs.members.values_of.Goals as goal

pub returns-in-None : goal.returns-in-None
returns-in-None c =
    let P : Option Cell → Type 0 = λ found. Reads (GivesValue c.args.kind c.item-item.result) found in
    not_values c.args.kind c.args.items.now c.loop-item.item-index c.item-item.result c.loop-item-test.true
    c.item-item.is (subst P c.in-None.is c.in_ok-value.ensures)

pub loop-item-preserved : goal.loop-item-preserved
loop-item-preserved c =
    let P : Option Cell → Type 0 = λ found. Reads (GivesValue c.args.kind c.item-item.result) found in
    let Q : List Cell → Type 0 = λ values. AreValues c.args.kind
    (take (c.loop-item.item-index + 1) c.args.items.now) values in
    subst Q (sym c.in_ok-push-in-Some.ensures.ok)
    (next_value c.args.kind c.args.items.now c.loop-item.values c.loop-item.item-index c.item-item.result
    c.in-Some.value c.loop-item-test.true c.item-item.is c.loop-item.invariant
    (subst P c.in-Some.is c.in_ok-value.ensures))

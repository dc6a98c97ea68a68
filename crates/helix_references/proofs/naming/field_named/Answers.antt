use Rattle.helix_references.proofs.FieldNames.{next_field, this_field, no_field}
use Rattle.helix_references.proofs.naming.field_named.Goals as goal

pub returns-then-is_same_text-clause-value : goal.returns-then-is_same_text-clause-value
returns-then-is_same_text-clause-value c = this_field c.args.fields.now c.args.name.now c.loop-i.i c.loop-i.invariant
    c.index-fields-i.result c.loop-i-test.true c.index-fields-i.is c.codes.result.now c.is_same_text.result
    c.codes.ensures.value c.is_same_text.ensures c.if-is_same_text.true

pub loop-i-preserved : goal.loop-i-preserved
loop-i-preserved c = next_field c.args.fields.now c.args.name.now c.loop-i.i c.loop-i.invariant
    c.index-fields-i.result c.loop-i-test.true c.index-fields-i.is c.codes.result.now c.is_same_text.result
    c.codes.ensures.value c.is_same_text.ensures c.if-is_same_text.false

pub returns-clause-value : goal.returns-clause-value
returns-clause-value c = no_field c.args.fields.now c.args.name.now c.loop-i.i c.loop-i.invariant c.loop-i-test.false

use Rattle.std.proofs.Common.{refl}
use Rattle.helix_places.specs.KeyLaws.{none_more}
use Rattle.helix_fields.proofs.FieldNames.{has_it, has_none, named_not}
use Rattle.helix_fields.proofs.names.has_name.Goals as goal

pub returns-then-is_named : goal.returns-then-is_named
returns-then-is_named c = (
  (λ t. has_it c.args.fields.now c.args.name.now c.loop-field.field-index c.field-item.result c.is_named.result
      c.loop-field-test.true c.field-item.is c.is_named.ensures c.if-is_named.true),
  (λ h. refl),
)

pub loop-field-preserved : goal.loop-field-preserved
loop-field-preserved c = none_more _ c.args.fields.now c.loop-field.field-index c.field-item.result
    c.loop-field-test.true c.field-item.is c.loop-field.invariant
    (named_not c.is_named.result _ c.is_named.ensures c.if-is_named.false)

pub returns : goal.returns
returns c = (
  (λ t. absurd (cc)),
  (λ h. absurd (has_none c.args.fields.now c.args.name.now c.loop-field.field-index c.loop-field-test.false
      c.loop-field.invariant h)),
)

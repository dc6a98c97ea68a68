use Rattle.std.proofs.Common.{length, ap, arith}
use Rattle.helix_partition.proofs.Reading.{own_labelled, item_names, item_there, item_read}
use Rattle.helix_partition.proofs.labels.labels_of.Goals as goal

pub loop-constraint-init : goal.loop-constraint-init
loop-constraint-init c = (
  c.new-firsts.ensures,
  own_labelled c.args.profile.now c.in_ok-labels.labels.items
      (length c.fields-fields.result.now) c.in_ok-labels.ensures (ap length c.fields-fields.ensures.value),
)

pub join_named-requires-clause-named : goal.join_named-requires-clause-named
join_named-requires-clause-named c = item_names c.args.profile.now c.fields-fields.ensures.valid
    c.constraints-constraints.result.now c.loop-constraint.constraint-index c.constraint-item.result
    c.constraints-constraints.ensures.value (omega arith) c.constraint-item.is

pub join_named-requires-clause-there : goal.join_named-requires-clause-there
join_named-requires-clause-there c = item_there c.args.profile.now c.fields-fields.ensures.valid
    c.constraints-constraints.result.now c.loop-constraint.constraint-index c.constraint-item.result
    c.constraints-constraints.ensures.value (omega arith) c.constraint-item.is c.as_mut_slice.result.now
    c.loop-constraint.labels.items _ c.as_mut_slice.ensures.value c.loop-constraint.invariant.1

pub loop-constraint-preserved : goal.loop-constraint-preserved
loop-constraint-preserved c = item_read c.args.profile.now c.fields-fields.ensures.valid
    c.constraints-constraints.result.now c.loop-constraint.constraint-index c.constraint-item.result
    c.constraints-constraints.ensures.value (omega arith) c.constraint-item.is
    c.loop-constraint.labels.items c.as_mut_slice.result.now c.join_named.new.labels c.loop-constraint.labels.len
    c.loop-constraint.firsts c.push.new.self c.in_ok-first.first c.as_mut_slice.ensures.value
    (omega (arith, c.loop-constraint.labels.ok.0)) c.in_ok-first.ensures.joined c.in_ok-first.ensures.first
    c.in_ok-push.ensures.ok c.loop-constraint.invariant

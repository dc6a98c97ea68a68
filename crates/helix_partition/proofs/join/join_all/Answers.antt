use Rattle.std.proofs.Common.{arith}
use Rattle.helix_partition.proofs.Labelling.{joins_next_as}
use Rattle.helix_partition.proofs.join.join_all.Goals as goal

pub loop-field-preserved : goal.loop-field-preserved
loop-field-preserved c = joins_next_as c.args.labels.now c.loop-field.labels c.args.fields.now c.loop-field.field-index
    (omega arith) c.requires c.loop-field.invariant c.join.new.labels c.join.ensures

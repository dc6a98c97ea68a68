use Rattle.std.proofs.Common.{◌∙◌, ◌++◌, ◌∷◌, [], ap}
use Rattle.helix_partition.proofs.Reading.{range_more}
use Rattle.helix_partition.proofs.labels.own_labels.Goals as goal

pub loop-field-preserved : goal.loop-field-preserved
loop-field-preserved c = c.in_ok-push.ensures.items
    ∙ (ap (λ l. l ++ c.loop-field.field ∷ []) c.loop-field.invariant ∙ range_more c.loop-field.field)

use Rattle.std.proofs.Common.{get_or, ◌==◌, sym, ap, ◌∙◌}
use Rattle.std.proofs.lemmas.Bool.{eq-eqb, ne_eqb}
use Rattle.helix_partition.specs.Inner.Labels.{labelled_group}
use Rattle.helix_partition.proofs.Numbers.{more_groups, no_more_groups}
use Rattle.helix_partition.proofs.groups.groups.Goals as goal
use Rattle.helix_partition.proofs.groups.groups.Goals.{then-label-field+in_ok-group+in_ok-push, else-label-field}

pub loop-field-preserved : goal.loop-field-preserved
loop-field-preserved c = elim c.if-label-field.branch [
  | then-label-field+in_ok-group+in_ok-push w ↦
      more_groups (labelled_group c.args.found.now.labels.items c.args.found.now.firsts)
      (λ f. get_or c.args.found.now.labels.items f 0 == f) c.loop-field.field _ c.loop-field.groups
      c.if-label-field.groups
      w.in_ok-group.field-0 w.if-label-field.true
      (eq-eqb (get_or c.args.found.now.labels.items c.loop-field.field 0) c.loop-field.field
      (ap (λ l. get_or l c.loop-field.field 0) (sym c.as_slice-label-items.ensures.value) ∙ w.if-label-field.true))
      c.loop-field.invariant w.in_ok-group.ensures (w.groups-is ∙ w.in_ok-push.ensures.ok)
  | else-label-field w ↦
      no_more_groups (labelled_group c.args.found.now.labels.items c.args.found.now.firsts)
      (λ f. get_or c.args.found.now.labels.items f 0 == f) c.loop-field.field c.loop-field.groups
      c.if-label-field.groups
      (ne_eqb (get_or c.args.found.now.labels.items c.loop-field.field 0) c.loop-field.field
      (λ e. w.if-label-field.false (ap (λ l. get_or l c.loop-field.field 0) c.as_slice-label-items.ensures.value ∙ e)))
      c.loop-field.invariant w.groups-is
]

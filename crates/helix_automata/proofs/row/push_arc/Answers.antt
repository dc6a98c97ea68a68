use Rattle.std.proofs.Common.{◌∙◌, length, ap, refl}
use Rattle.helix_automata.proofs.WithArcs.{extended_at, pushed_at, pushed_first}
use Rattle.helix_automata.proofs.row.push_arc.Goals as goal
use Rattle.helix_automata.proofs.row.push_arc.Goals.{else-count-gt0-via-then-count-gt0+else-index-item, else-count-gt0-via-else-count-gt0}

pub returns-then-index-item-clause-ok : goal.returns-then-index-item-clause-ok
returns-then-index-item-clause-ok c =
    extended_at c.args.arcs.now.items c.args.arcs.now.items c.args.item (length c.as_slice-count.result.now) refl
    (ap length c.as_slice-count.ensures.value)
    c.index.result.now c.index_mut.result.now _ c.if-count-gt0.true c.index.ensures c.index_mut.ensures.value
    c.if-index-item.true

pub returns-clause-ok : goal.returns-clause-ok
returns-clause-ok c = c.in_ok-push.ensures.items ∙ elim c.else-count-gt0.branch [
  | else-count-gt0-via-then-count-gt0+else-index-item w ↦ pushed_at c.args.arcs.now.items c.args.arcs.now.items
      c.args.item (length c.as_slice-count.result.now) refl (ap length c.as_slice-count.ensures.value)
      w.index.result.now w.if-count-gt0.true w.index.ensures w.if-index-item.false
  | else-count-gt0-via-else-count-gt0 w ↦ pushed_first c.args.arcs.now.items c.args.arcs.now.items c.args.item
      (length c.as_slice-count.result.now) refl (ap length c.as_slice-count.ensures.value) w.if-count-gt0.false
]

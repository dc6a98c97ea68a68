use Rattle.std.proofs.Common.{sym, ◌∙◌}
use Rattle.helix_relations.specs.Inner.FindingLaws.{seen_more, seen_same}
use Rattle.helix_relations.proofs.neighbours.seen_from.Goals as goal
use Rattle.helix_relations.proofs.neighbours.seen_from.Goals.{in-Some+in_ok-push, in_default}

pub loop-signed-preserved : goal.loop-signed-preserved
loop-signed-preserved c = elim c.match-end_seen.branch [
  | in-Some+in_ok-push w ↦ seen_more c.args.parent c.args.child c.args.relations.now c.loop-signed.signed-index _
      w.in-Some.child c.loop-signed-test.true (sym c.end_seen.ensures ∙ w.in-Some.is) c.loop-signed.seen
      c.match-end_seen.seen c.loop-signed.invariant (w.seen-is ∙ w.in_ok-push.ensures.ok)
  | in_default w ↦ seen_same c.args.parent c.args.child c.args.relations.now c.loop-signed.signed-index _
      c.loop-signed-test.true (sym c.end_seen.ensures ∙ w.in_default.is) c.loop-signed.seen c.match-end_seen.seen
      c.loop-signed.invariant w.seen-is
]

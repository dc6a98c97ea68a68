use Rattle.std.proofs.Common.{◌+◌, take, sym, ap, ◌∙◌, subst}
use Rattle.std.proofs.lemmas.Bool.{iff_false}
use Rattle.helix_domains.specs.Inner.Spelling.{AreFollowing}
use Rattle.helix_domains.proofs.Followings.{follow_in_read, follow_out_read, follow_all}
use Rattle.helix_domains.proofs.others.following.Goals as goal
use Rattle.helix_domains.proofs.others.following.Goals.{then-is_at+in_ok-push, else-is_at}

pub loop-number-preserved : goal.loop-number-preserved
loop-number-preserved c =
    elim c.if-is_at.branch [
      | then-is_at+in_ok-push w ↦
          subst (AreFollowing c.args.cells.now c.args.place (take (c.loop-number.number-index + 1) c.args.numbers.now)
          c.args.code) (sym (ap (λ v. v.items) w.next-is ∙ w.in_ok-push.ensures.items))
          (follow_in_read c.args.cells.now c.args.place c.args.numbers.now c.args.code c.loop-number.next.items
          c.loop-number.number-index _ c.loop-number-test.true (c.is_at.ensures.0 w.if-is_at.true)
          c.loop-number.invariant)
      | else-is_at w ↦
          subst (AreFollowing c.args.cells.now c.args.place (take (c.loop-number.number-index + 1) c.args.numbers.now)
          c.args.code) (sym (ap (λ v. v.items) w.next-is))
          (follow_out_read c.args.cells.now c.args.place c.args.numbers.now c.args.code c.loop-number.next.items
          c.loop-number.number-index _ c.loop-number-test.true (iff_false c.is_at.ensures w.if-is_at.false)
          c.loop-number.invariant)
    ]

pub returns : goal.returns
returns c = follow_all c.args.cells.now c.args.place c.args.numbers.now c.args.code c.loop-number.next.items
    c.loop-number.number-index c.loop-number-test.false c.loop-number.invariant

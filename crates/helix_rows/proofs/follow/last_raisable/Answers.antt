use Rattle.std.proofs.Common.{◌≡◌, ◌+◌, ◌-◌, length, refl, sym, ◌∙◌, subst, arith}
use Rattle.helix_rows.proofs.Asked.{steps_both}
use Rattle.helix_rows.proofs.Counting.{one_more}
use Rattle.helix_rows.proofs.Regions.{has_new, has_old, kept_both, kept_none}
use Rattle.helix_rows.proofs.Rising.{last_at_end}
use Rattle.helix_rows.proofs.Seeking.{raisable_same}
use Rattle.helix_rows.specs.Inner.Answers.{IsLastFrom}
use Rattle.helix_rows.specs.Inner.Following.{IsRaisable}
use Rattle.helix_rows.specs.Parts.{HasAt, IsInParts}
use Rattle.helix_rows.proofs.follow.last_raisable.Goals as goal

pub loop-done-init : goal.loop-done-init
loop-done-init g c = record {
  raised = subst (IsLastFrom (IsInParts (HasAt g.R.Region.HasRow c.args.state.now.regions.items)
      (length c.args.state.now.row)
      c.args.layout.now.parts) c.args.state.now.row) (omega (arith, c.len-count.ensures))
      (last_at_end (IsInParts (HasAt g.R.Region.HasRow c.args.state.now.regions.items) (length c.args.state.now.row)
      c.args.layout.now.parts) (length c.args.state.now.row) (λ row member. member.count) c.args.state.now.row refl);
  row = refl;
  cells = c.requires.cells;
  ready = c.requires.ready;
  room = refl;
  kept = kept_none g.R.Region.fields g.R.Region.HasRow c.args.state.now.regions.items;
  asked = omega arith;
  steps = record { domain = omega arith; moves = omega arith };
}

pub rise-raised-requires-clause-raised : goal.rise-raised-requires-clause-raised
rise-raised-requires-clause-raised g c =
    let here : c.len-count.result - c.loop-done.done ≡ (c.len-count.result - 1 - c.loop-done.done) + 1 =
    omega (arith, c.loop-done-test.true) in
    subst (λ row. IsRaisable (HasAt g.R.Region.HasRow c.loop-done.state.regions.items) c.args.layout.now row
    c.loop-done.state.alive.items c.loop-done.best ((c.len-count.result - 1 - c.loop-done.done) + 1)
    c.loop-done.raised) (sym c.loop-done.invariant.row)
    (subst (λ start. IsRaisable (HasAt g.R.Region.HasRow c.loop-done.state.regions.items) c.args.layout.now
    c.args.state.now.row c.loop-done.state.alive.items c.loop-done.best start c.loop-done.raised) here
    (raisable_same (HasAt g.R.Region.HasRow c.args.state.now.regions.items)
    (HasAt g.R.Region.HasRow c.loop-done.state.regions.items)
    (λ n cells. has_new g.R.Region.fields g.R.Region.HasRow c.args.state.now.regions.items
    c.loop-done.state.regions.items c.loop-done.invariant.kept n cells)
    (λ n cells. has_old g.R.Region.fields g.R.Region.HasRow c.args.state.now.regions.items
    c.loop-done.state.regions.items c.loop-done.invariant.kept n cells)
    c.args.layout.now c.args.state.now.row c.loop-done.state.alive.items c.loop-done.best
    (c.len-count.result - c.loop-done.done) c.loop-done.raised c.loop-done.invariant.raised))

pub loop-done-preserved : goal.loop-done-preserved
loop-done-preserved g c =
    let here : c.len-count.result - 1 - c.loop-done.done ≡ c.len-count.result - (c.loop-done.done + 1) = omega arith in
    record {
      raised = subst (λ start. IsRaisable (HasAt g.R.Region.HasRow c.args.state.now.regions.items) c.args.layout.now
          c.args.state.now.row c.rise-raised.new.state.alive.items c.rise-raised.new.best start c.rise-raised.result)
          here
          (raisable_same (HasAt g.R.Region.HasRow c.loop-done.state.regions.items)
          (HasAt g.R.Region.HasRow c.args.state.now.regions.items)
          (λ n cells. has_old g.R.Region.fields g.R.Region.HasRow c.args.state.now.regions.items
          c.loop-done.state.regions.items c.loop-done.invariant.kept n cells)
          (λ n cells. has_new g.R.Region.fields g.R.Region.HasRow c.args.state.now.regions.items
          c.loop-done.state.regions.items c.loop-done.invariant.kept n cells)
          c.args.layout.now c.args.state.now.row c.rise-raised.new.state.alive.items c.rise-raised.new.best
          (c.len-count.result - 1 - c.loop-done.done) c.rise-raised.result
          (subst (λ row. IsRaisable (HasAt g.R.Region.HasRow c.loop-done.state.regions.items) c.args.layout.now row
          c.rise-raised.new.state.alive.items c.rise-raised.new.best (c.len-count.result - 1 - c.loop-done.done)
          c.rise-raised.result) c.loop-done.invariant.row c.rise-raised.ensures.raised));
      row = c.rise-raised.ensures.row ∙ c.loop-done.invariant.row;
      cells = c.rise-raised.ensures.cells;
      ready = c.rise-raised.ensures.ready;
      room = c.rise-raised.ensures.room ∙ c.loop-done.invariant.room;
      kept = kept_both g.R.Region.fields g.R.Region.HasRow _ _ _ c.loop-done.invariant.kept c.rise-raised.ensures.kept;
      asked = one_more _ _ _ c.loop-done.done c.args.state.now.found.numbers.room c.loop-done.state.found.numbers.room
          c.loop-done.invariant.room c.loop-done.invariant.asked c.rise-raised.ensures.asked;
      steps = steps_both _ _ _ c.loop-done.invariant.steps c.rise-raised.ensures.steps;
    }

use Rattle.std.proofs.Common.{◌≡◌, ◌+◌, ◌-◌, length, sym, ◌∙◌, ap, subst, arith}
use Rattle.helix_rows.proofs.Asked.{steps_both}
use Rattle.helix_rows.proofs.Answered.{changed_none, agree_changed, long_changed, step_has}
use Rattle.helix_rows.proofs.Climbing.{alive_less, before_begun, alive_more, begun_more, others_same, down_none, is_raised}
use Rattle.helix_rows.proofs.Kept.{alive_now, alive_then, begun_now, answer_then}
use Rattle.helix_rows.proofs.Counting.{one_more, within}
use Rattle.helix_rows.proofs.Regions.{kept_both}
use Rattle.helix_rows.specs.Inner.Answers.{IsLastFrom, IsRaised}
use Rattle.helix_rows.specs.Inner.Levels.{AreAliveTo, AreBegunTo, GoesOn, part_of}
use Rattle.helix_rows.specs.Parts.{HasAt, IsInParts}
use Rattle.helix_rows.specs.Regions.{cell_at, IsLeastStep}
use Rattle.helix_rows.specs.declared.region.Question.TheVariants.{After}
use Rattle.helix_rows.proofs.climb.raise.Goals as goal

pub ask-requires-clause-alive : goal.ask-requires-clause-alive
ask-requires-clause-alive g c =
    alive_now g.R.Region.fields g.R.Region.HasRow c.args.state.now.regions.items c.loop-done.state.regions.items
    c.loop-done.invariant.kept c.args.layout.now c.loop-done.state.row
    c.loop-done.state.alive.items (c.args.end - 1 - c.loop-done.done)
    (alive_less (HasAt g.R.Region.HasRow c.args.state.now.regions.items) c.args.layout.now c.loop-done.state.row
    c.loop-done.state.alive.items c.args.end (c.args.end - 1 - c.loop-done.done) (omega arith)
    (subst (λ r. AreAliveTo (HasAt g.R.Region.HasRow c.args.state.now.regions.items) c.args.layout.now r
    c.loop-done.state.alive.items c.args.end) (sym c.loop-done.invariant.row)
    (subst (λ a. AreAliveTo (HasAt g.R.Region.HasRow c.args.state.now.regions.items) c.args.layout.now
    c.args.state.now.row a c.args.end) (sym c.loop-done.invariant.alive) c.requires.alive)))

pub ask-requires-clause-begun : goal.ask-requires-clause-begun
ask-requires-clause-begun g c =
    begun_now g.R.Region.fields g.R.Region.HasRow c.args.state.now.regions.items c.loop-done.state.regions.items
    c.loop-done.invariant.kept c.args.layout.now
    (part_of c.args.layout.now (c.args.end - 1 - c.loop-done.done)).regions _
    (before_begun (HasAt g.R.Region.HasRow c.args.state.now.regions.items) c.args.layout.now
    (length c.args.state.now.row)
    c.requires.layout (c.args.end - 1 - c.loop-done.done) (omega (arith, c.requires.end, c.loop-done-test.true))
    c.loop-done.state.row
    ((subst (λ r. AreBegunTo (HasAt g.R.Region.HasRow c.args.state.now.regions.items) c.args.layout.now r c.args.end)
    (sym c.loop-done.invariant.row) c.requires.begun) (c.args.end - 1 - c.loop-done.done)
    (omega (arith, c.loop-done-test.true))))

pub returns-then-ask-clause-raised : goal.returns-then-ask-clause-raised
returns-then-ask-clause-raised g c =
    let answer = (answer_then g.R.Region.fields g.R.Region.HasRow c.args.state.now.regions.items
    c.loop-done.state.regions.items
    c.loop-done.invariant.kept c.args.layout.now (c.args.end - 1 - c.loop-done.done)
    c.loop-done.state.row After c.ask.result _ _ c.ask.ensures.answer) in
    let least = step_has _ After c.ask.result _ _ answer c.if-ask.true in
    let agree = (agree_changed c.ask.result c.loop-done.state.row c.ask.new.state.row
    (c.args.end - 1 - c.loop-done.done) _ c.ask.ensures.row) in (
      subst (λ r. IsRaised (IsInParts (HasAt g.R.Region.HasRow c.args.state.now.regions.items)
          (length c.args.state.now.row)
          c.args.layout.now.parts) r c.ask.new.state.row (c.args.end - 1 - c.loop-done.done)) c.loop-done.invariant.row
          (is_raised (HasAt g.R.Region.HasRow c.args.state.now.regions.items) c.args.layout.now
          (length c.args.state.now.row)
          c.requires.layout (c.args.end - 1 - c.loop-done.done) (omega (arith, c.requires.end, c.loop-done-test.true))
          c.loop-done.state.row (ap length c.loop-done.invariant.row)
          c.ask.new.state.row
          (long_changed c.ask.result c.loop-done.state.row c.ask.new.state.row (c.args.end - 1 - c.loop-done.done) _
          c.ask.ensures.row ∙ (ap length c.loop-done.invariant.row))
          agree least (subst (λ r. IsLastFrom (IsInParts (HasAt g.R.Region.HasRow c.args.state.now.regions.items)
          (length c.args.state.now.row)
          c.args.layout.now.parts) r ((c.args.end - 1 - c.loop-done.done) + 1)) (sym c.loop-done.invariant.row)
          (subst (λ k. IsLastFrom (IsInParts (HasAt g.R.Region.HasRow c.args.state.now.regions.items)
          (length c.args.state.now.row)
          c.args.layout.now.parts) c.args.state.now.row k)
          (omega (arith, c.loop-done-test.true)) c.loop-done.invariant.last))),
      omega (arith, c.loop-done-test.true),
      alive_more (HasAt g.R.Region.HasRow c.args.state.now.regions.items) c.args.layout.now
          (length c.args.state.now.row)
          c.requires.layout (c.args.end - 1 - c.loop-done.done) (omega (arith, c.requires.end, c.loop-done-test.true))
          c.loop-done.state.row c.ask.new.state.row agree
          c.loop-done.state.alive.items c.ask.new.state.alive.items
          (alive_less (HasAt g.R.Region.HasRow c.args.state.now.regions.items) c.args.layout.now c.loop-done.state.row
          c.loop-done.state.alive.items c.args.end (c.args.end - 1 - c.loop-done.done) (omega arith)
          (subst (λ r. AreAliveTo (HasAt g.R.Region.HasRow c.args.state.now.regions.items) c.args.layout.now r
          c.loop-done.state.alive.items c.args.end) (sym c.loop-done.invariant.row)
          (subst (λ a. AreAliveTo (HasAt g.R.Region.HasRow c.args.state.now.regions.items) c.args.layout.now
          c.args.state.now.row a c.args.end) (sym c.loop-done.invariant.alive) c.requires.alive)))
          (others_same c.ask.result c.loop-done.state.alive.items c.ask.new.state.alive.items
          (c.args.end - 1 - c.loop-done.done) _ c.ask.ensures.alive)
          (alive_then g.R.Region.fields g.R.Region.HasRow c.args.state.now.regions.items c.loop-done.state.regions.items
          c.loop-done.invariant.kept c.args.layout.now (c.args.end - 1 - c.loop-done.done)
          c.ask.new.state.row _ (c.ask.ensures.chosen c.if-ask.true)),
      begun_more (HasAt g.R.Region.HasRow c.args.state.now.regions.items) c.args.layout.now
          (length c.args.state.now.row)
          c.requires.layout (c.args.end - 1 - c.loop-done.done) (omega (arith, c.requires.end, c.loop-done-test.true))
          c.loop-done.state.row c.ask.new.state.row agree
          (λ f less. (subst (λ r. AreBegunTo (HasAt g.R.Region.HasRow c.args.state.now.regions.items)
          c.args.layout.now r c.args.end)
          (sym c.loop-done.invariant.row) c.requires.begun) f (omega (arith, less)))
          least.has,
    )

pub loop-done-preserved : goal.loop-done-preserved
loop-done-preserved g c =
    let row : c.ask.new.state.row ≡ c.loop-done.state.row = changed_none c.ask.result c.loop-done.state.row
    c.ask.new.state.row (c.args.end - 1 - c.loop-done.done) _ c.ask.ensures.row c.if-ask.false in
    let alive : c.ask.new.state.alive.items ≡ c.loop-done.state.alive.items =
    changed_none c.ask.result c.loop-done.state.alive.items c.ask.new.state.alive.items
    (c.args.end - 1 - c.loop-done.done) _ c.ask.ensures.alive c.if-ask.false in
    let answer = subst (λ yes. IsLeastStep (GoesOn (HasAt g.R.Region.HasRow c.args.state.now.regions.items)
    c.args.layout.now (c.args.end - 1 - c.loop-done.done) c.loop-done.state.row) After yes
    (cell_at c.loop-done.state.row (c.args.end - 1 - c.loop-done.done))
    (cell_at c.ask.new.state.row (c.args.end - 1 - c.loop-done.done))) c.if-ask.false
    (answer_then g.R.Region.fields g.R.Region.HasRow c.args.state.now.regions.items c.loop-done.state.regions.items
    c.loop-done.invariant.kept c.args.layout.now (c.args.end - 1 - c.loop-done.done)
    c.loop-done.state.row After c.ask.result _ _ c.ask.ensures.answer) in
    record {
      row = row ∙ c.loop-done.invariant.row;
      alive = alive ∙ c.loop-done.invariant.alive;
      last = subst (λ k. IsLastFrom (IsInParts (HasAt g.R.Region.HasRow c.args.state.now.regions.items)
          (length c.args.state.now.row)
          c.args.layout.now.parts) c.args.state.now.row k) (omega (arith, c.loop-done-test.true))
          (subst (λ r. IsLastFrom (IsInParts (HasAt g.R.Region.HasRow c.args.state.now.regions.items)
          (length c.args.state.now.row)
          c.args.layout.now.parts) r (c.args.end - 1 - c.loop-done.done)) c.loop-done.invariant.row
          (down_none (HasAt g.R.Region.HasRow c.args.state.now.regions.items) c.args.layout.now
          (length c.args.state.now.row)
          c.requires.layout (c.args.end - 1 - c.loop-done.done) (omega (arith, c.requires.end, c.loop-done-test.true))
          c.loop-done.state.row (ap length c.loop-done.invariant.row)
          (cell_at c.ask.new.state.row (c.args.end - 1 - c.loop-done.done)) answer
          (subst (λ r. IsLastFrom (IsInParts (HasAt g.R.Region.HasRow c.args.state.now.regions.items)
          (length c.args.state.now.row)
          c.args.layout.now.parts) r ((c.args.end - 1 - c.loop-done.done) + 1)) (sym c.loop-done.invariant.row)
          (subst (λ k. IsLastFrom (IsInParts (HasAt g.R.Region.HasRow c.args.state.now.regions.items)
          (length c.args.state.now.row)
          c.args.layout.now.parts) c.args.state.now.row k)
          (omega (arith, c.loop-done-test.true)) c.loop-done.invariant.last))));
      fit = c.ask.ensures.fit;
      cells = c.ask.ensures.cells;
      ready = c.ask.ensures.ready;
      room = c.ask.ensures.room ∙ c.loop-done.invariant.room;
      kept = kept_both g.R.Region.fields g.R.Region.HasRow _ _ _ c.loop-done.invariant.kept c.ask.ensures.kept;
      asked = one_more _ _ _ c.loop-done.done c.args.state.now.found.numbers.room c.loop-done.state.found.numbers.room
          c.loop-done.invariant.room c.loop-done.invariant.asked c.ask.ensures.asked;
      steps = steps_both _ _ _ c.loop-done.invariant.steps c.ask.ensures.steps;
    }

pub returns-then-ask-clause-asked : goal.returns-then-ask-clause-asked
returns-then-ask-clause-asked g c =
    within _ _ (c.loop-done.done + 1) c.args.end c.args.state.now.found.numbers.room
    (omega (arith, c.loop-done-test.true))
    (one_more _ _ _ c.loop-done.done c.args.state.now.found.numbers.room c.loop-done.state.found.numbers.room
    c.loop-done.invariant.room c.loop-done.invariant.asked c.ask.ensures.asked)

pub returns-clause-asked : goal.returns-clause-asked
returns-clause-asked g c =
    within _ _ c.loop-done.done c.args.end c.args.state.now.found.numbers.room
    (omega (arith, c.loop-done-test.false, c.loop-done.auto.done-end)) c.loop-done.invariant.asked

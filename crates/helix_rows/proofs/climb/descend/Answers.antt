use Rattle.std.proofs.Common.{◌-◌, length, sym, ◌∙◌, subst, ⊎_elim, arith}
use Rattle.helix_rows.proofs.Asked.{steps_both}
use Rattle.helix_rows.proofs.Begun.{begun_at, goes_somewhere, start_answers}
use Rattle.helix_rows.proofs.Climbing.{alive_more, begun_more, others_same, least_at, least_before}
use Rattle.helix_rows.proofs.Kept.{alive_now, alive_then, begun_now, answer_then}
use Rattle.helix_rows.proofs.Counting.{later, within}
use Rattle.helix_rows.proofs.Answered.{agree_changed, long_changed, step_has}
use Rattle.helix_rows.proofs.Regions.{kept_both, same_or_not}
use Rattle.helix_rows.specs.Inner.Answers.{IsLeastAt}
use Rattle.helix_rows.specs.Inner.Levels.{part_of}
use Rattle.helix_rows.specs.Parts.{HasAt, IsInParts}
use Rattle.helix_rows.specs.declared.region.Question.TheVariants.{Start}
use Rattle.helix_rows.proofs.climb.descend.Goals as goal

pub ask-requires-clause-alive : goal.ask-requires-clause-alive
ask-requires-clause-alive g c =
    alive_now g.R.Region.fields g.R.Region.HasRow c.args.state.now.regions.items c.loop-field.state.regions.items
    c.loop-field.invariant.kept c.args.layout.now c.loop-field.state.row
    c.loop-field.state.alive.items c.loop-field.field c.loop-field.invariant.alive

pub ask-requires-clause-begun : goal.ask-requires-clause-begun
ask-requires-clause-begun g c =
    begun_now g.R.Region.fields g.R.Region.HasRow c.args.state.now.regions.items c.loop-field.state.regions.items
    c.loop-field.invariant.kept c.args.layout.now
    (part_of c.args.layout.now c.loop-field.field).regions _
    (begun_at g.R.Region.fields g.R.Region.HasRow g.met.R.Region.shaped c.args.state.now.regions.items c.args.layout.now
    (length c.args.state.now.row) c.requires.layout c.requires.ready.are c.requires.regions c.loop-field.field
    (omega (arith, c.loop-field-test.true, c.len-count.ensures)) c.loop-field.state.row c.loop-field.invariant.begun)

pub loop-field-preserved : goal.loop-field-preserved
loop-field-preserved g c =
    let begun = (begun_at g.R.Region.fields g.R.Region.HasRow g.met.R.Region.shaped c.args.state.now.regions.items
    c.args.layout.now
    (length c.args.state.now.row) c.requires.layout c.requires.ready.are c.requires.regions c.loop-field.field
    (omega (arith, c.loop-field-test.true, c.len-count.ensures)) c.loop-field.state.row c.loop-field.invariant.begun) in
    let some = goes_somewhere g.R.Region.fields g.R.Region.HasRow g.met.R.Region.shaped c.args.state.now.regions.items
    c.args.layout.now
    (length c.args.state.now.row) c.requires.layout c.requires.ready.are c.requires.regions c.loop-field.field
    (omega (arith, c.loop-field-test.true, c.len-count.ensures)) c.loop-field.state.row begun in
    let answer = (answer_then g.R.Region.fields g.R.Region.HasRow c.args.state.now.regions.items
    c.loop-field.state.regions.items
    c.loop-field.invariant.kept c.args.layout.now c.loop-field.field
    c.loop-field.state.row Start c.ask.result _ _ c.ask.ensures.answer) in
    let is = start_answers _ c.ask.result _ _ some answer in
    let least = step_has _ Start c.ask.result _ _ answer is in
    let agree = agree_changed c.ask.result c.loop-field.state.row c.ask.new.state.row c.loop-field.field _
    c.ask.ensures.row in
    record {
      long = long_changed c.ask.result c.loop-field.state.row c.ask.new.state.row c.loop-field.field _ c.ask.ensures.row
          ∙ c.loop-field.invariant.long;
      same = λ f less. agree f (omega (arith, less)) ∙ c.loop-field.invariant.same f less;
      least = λ f from less. ⊎_elim
          (λ e. subst (λ k. IsLeastAt (IsInParts (HasAt g.R.Region.HasRow c.args.state.now.regions.items)
          (length c.args.state.now.row)
          c.args.layout.now.parts) c.ask.new.state.row k) (sym e)
          (least_at (HasAt g.R.Region.HasRow c.args.state.now.regions.items) c.args.layout.now
          (length c.args.state.now.row)
          c.requires.layout c.loop-field.field (omega (arith, c.loop-field-test.true, c.len-count.ensures))
          c.loop-field.state.row c.loop-field.invariant.long
          c.ask.new.state.row agree least))
          (λ differs. least_before (HasAt g.R.Region.HasRow c.args.state.now.regions.items) c.args.layout.now
          (length c.args.state.now.row)
          c.requires.layout c.loop-field.field (omega (arith, c.loop-field-test.true, c.len-count.ensures))
          c.loop-field.state.row c.loop-field.invariant.long
          c.ask.new.state.row agree f (omega (arith, less, differs))
          (c.loop-field.invariant.least f from (omega (arith, less, differs))))
          (same_or_not f c.loop-field.field);
      alive = alive_more (HasAt g.R.Region.HasRow c.args.state.now.regions.items) c.args.layout.now
          (length c.args.state.now.row)
          c.requires.layout c.loop-field.field (omega (arith, c.loop-field-test.true, c.len-count.ensures))
          c.loop-field.state.row c.ask.new.state.row agree
          c.loop-field.state.alive.items c.ask.new.state.alive.items c.loop-field.invariant.alive
          (others_same c.ask.result c.loop-field.state.alive.items c.ask.new.state.alive.items c.loop-field.field _
          c.ask.ensures.alive)
          (alive_then g.R.Region.fields g.R.Region.HasRow c.args.state.now.regions.items
          c.loop-field.state.regions.items
          c.loop-field.invariant.kept c.args.layout.now c.loop-field.field
          c.ask.new.state.row _ (c.ask.ensures.chosen is));
      begun = begun_more (HasAt g.R.Region.HasRow c.args.state.now.regions.items) c.args.layout.now
          (length c.args.state.now.row)
          c.requires.layout c.loop-field.field (omega (arith, c.loop-field-test.true, c.len-count.ensures))
          c.loop-field.state.row c.ask.new.state.row agree
          c.loop-field.invariant.begun least.has;
      fit = c.ask.ensures.fit;
      cells = c.ask.ensures.cells;
      ready = c.ask.ensures.ready;
      room = c.ask.ensures.room ∙ c.loop-field.invariant.room;
      kept = kept_both g.R.Region.fields g.R.Region.HasRow _ _ _ c.loop-field.invariant.kept c.ask.ensures.kept;
      asked = later _ _ _ c.loop-field.field c.args.start c.args.state.now.found.numbers.room
          c.loop-field.state.found.numbers.room (omega arith) c.loop-field.invariant.room c.loop-field.invariant.asked
          c.ask.ensures.asked;
      steps = steps_both _ _ _ c.loop-field.invariant.steps c.ask.ensures.steps;
    }

pub returns-clause-asked : goal.returns-clause-asked
returns-clause-asked g c =
    within _ _ (c.loop-field.field - c.args.start) (length c.args.state.now.row) c.args.state.now.found.numbers.room
    (omega (arith, c.loop-field-test.false, c.loop-field.auto.field-end, c.len-count.ensures))
    c.loop-field.invariant.asked

use Rattle.std.proofs.Common.{rules, refl}
use Rattle.helix_rows.proofs.Asked.{before_now, mark_now, comparable_best, best_next, kept_next, asked_next, fits_found, steps_both}
use Rattle.helix_rows.specs.Inner.Answers.{best_of}
use Rattle.helix_rows.specs.Inner.Levels.{part_of, level_of}
use Rattle.helix_values.specs.Marks.{IsAdmitted}
use Rattle.helix_rows.proofs.offer.least_of.Goals as goal

pub offer-requires-clause-comparable : goal.offer-requires-clause-comparable
offer-requires-clause-comparable g c =
    comparable_best g.R.Region.fields g.R.Region.HasRow c.args.regions.now.items c.loop-number.regions.items
    c.loop-number.invariant.kept c.args.among.now (part_of c.args.layout.now c.args.field).fields c.requires.regions
    c.loop-number.number-index c.loop-number-test.true c.index_mut.result.now c.index_mut.ensures.value
    c.args.row.now
    (level_of c.args.layout.now c.args.field).position _ (search rules) (IsAdmitted c.args.mark)
    (best_of c.loop-number.found) c.loop-number.invariant.best c.requires.comparable

pub offer-requires-clause-cells : goal.offer-requires-clause-cells
offer-requires-clause-cells g c =
    before_now g.R.Region.fields g.R.Region.HasRow c.args.regions.now.items c.loop-number.regions.items
    c.loop-number.invariant.kept c.args.among.now (part_of c.args.layout.now c.args.field).fields c.requires.regions
    c.loop-number.number-index c.loop-number-test.true c.index_mut.result.now c.index_mut.ensures.value
    c.args.row.now
    (level_of c.args.layout.now c.args.field).position _ (search rules) (IsAdmitted c.args.mark)
    (best_of c.loop-number.found) c.loop-number.invariant.best c.args.mark c.requires.askable

pub offer-requires-clause-mark : goal.offer-requires-clause-mark
offer-requires-clause-mark g c =
    mark_now g.R.Region.fields g.R.Region.HasRow c.args.regions.now.items c.loop-number.regions.items
    c.loop-number.invariant.kept c.args.among.now (part_of c.args.layout.now c.args.field).fields c.requires.regions
    c.loop-number.number-index c.loop-number-test.true c.index_mut.result.now c.index_mut.ensures.value
    c.args.row.now
    (level_of c.args.layout.now c.args.field).position _ (search rules) (IsAdmitted c.args.mark)
    (best_of c.loop-number.found) c.loop-number.invariant.best c.args.mark c.requires.askable

pub loop-number-preserved : goal.loop-number-preserved
loop-number-preserved g c = record {
  kept =
      kept_next g.R.Region.fields g.R.Region.HasRow c.args.regions.now.items c.loop-number.regions.items
      c.loop-number.invariant.kept c.args.among.now (part_of c.args.layout.now c.args.field).fields c.requires.regions
      c.loop-number.number-index c.loop-number-test.true c.index_mut.result.now c.index_mut.ensures.value
      c.args.row.now
      (level_of c.args.layout.now c.args.field).position (level_of c.args.layout.now c.args.field).position refl
      (IsAdmitted c.args.mark)
      (best_of c.loop-number.found) c.loop-number.invariant.best c.offer.new.region c.offer.ensures.fields
      c.offer.ensures.classes c.offer.ensures.grows c.offer.ensures.rows;
  best =
      best_next g.R.Region.fields g.R.Region.HasRow c.args.regions.now.items c.loop-number.regions.items
      c.loop-number.invariant.kept c.args.among.now (part_of c.args.layout.now c.args.field).fields c.requires.regions
      c.loop-number.number-index c.loop-number-test.true c.index_mut.result.now c.index_mut.ensures.value
      c.args.row.now
      (level_of c.args.layout.now c.args.field).position _ (search rules) (IsAdmitted c.args.mark)
      (best_of c.loop-number.found) c.loop-number.invariant.best (best_of c.offer.new.found) c.offer.ensures.offered;
  room = search rules;
  asked =
      asked_next g.R.Region.fields g.R.Region.HasRow c.args.regions.now.items c.loop-number.regions.items
      c.loop-number.invariant.kept c.args.among.now (part_of c.args.layout.now c.args.field).fields c.requires.regions
      c.loop-number.number-index c.loop-number-test.true c.index_mut.result.now c.index_mut.ensures.value
      c.args.row.now
      (level_of c.args.layout.now c.args.field).position (level_of c.args.layout.now c.args.field).position refl
      (IsAdmitted c.args.mark)
      (best_of c.loop-number.found) c.loop-number.invariant.best g.R.Region.asked c.offer.new.region
      c.offer.ensures.asked c.loop-number.invariant.asked;
  steps = steps_both _ _ _ c.loop-number.invariant.steps c.offer.ensures.steps;
}

pub returns-clause-fits : goal.returns-clause-fits
returns-clause-fits g c = λ yes.
    fits_found g.R.Region.fields g.R.Region.HasRow g.met.R.Region.shaped c.args.regions.now.items _ _ _
    (c.loop-number.invariant.best.found (search rules)).least.has

use Rattle.std.proofs.Common.{◌≤◌, length, take, sym, subst, arith}
use Rattle.std.proofs.lemmas.List.{take_all}
use Rattle.std.proofs.lemmas.List.Elements.{All-more, All-weaker}
use Rattle.std.specs.List.{All}
use Rattle.helix_rows.proofs.layout.most_regions.Goals as goal

pub loop-part-preserved : goal.loop-part-preserved
loop-part-preserved c = record {
  few =
      All-more (λ part. length part.regions ≤ c.greater-most.result) c.args.parts.now c.loop-part.part-index
      c.part-item.result
      c.loop-part-test.true
      (All-weaker (λ part. length part.regions ≤ c.loop-part.most) (λ part. length part.regions ≤ c.greater-most.result)
      (λ part few. omega (arith, few, c.greater-most.ensures.first)) (take c.loop-part.part-index c.args.parts.now)
      c.loop-part.invariant.few)
      (subst (λ part. length part.regions ≤ c.greater-most.result) c.part-item.is
      (subst (λ regions. length regions ≤ c.greater-most.result) c.as_slice.ensures c.greater-most.ensures.second));
  least = λ bound all. c.greater-most.ensures.least bound (c.loop-part.invariant.least bound all)
      (subst (λ regions. length regions ≤ bound) (sym c.as_slice.ensures)
      (subst (λ part. length part.regions ≤ bound) (sym c.part-item.is)
      (all c.loop-part.part-index c.part-item.result c.loop-part-test.true)));
}

pub returns-clause-few : goal.returns-clause-few
returns-clause-few c =
    subst (All (λ part. length part.regions ≤ c.loop-part.most))
    (take_all c.loop-part.part-index c.args.parts.now (omega (arith, c.loop-part-test.false))) c.loop-part.invariant.few

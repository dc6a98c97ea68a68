use Rattle.std.proofs.Common.{arith}
use Rattle.helix_relations.specs.Inner.PartLaws.{index_found, none_before, has_index}
use Rattle.helix_relations.proofs.region.index_of.Goals as goal

pub returns-then-part-number : goal.returns-then-part-number
returns-then-part-number c = index_found c.args.parts.now c.args.number c.loop-index.index _ c.loop-index-test.true
    c.index-parts-index.is c.if-part-number.true

pub loop-index-preserved : goal.loop-index-preserved
loop-index-preserved c = none_before c.args.parts.now c.args.number c.loop-index.index _ c.loop-index-test.true
    c.index-parts-index.is c.if-part-number.false c.loop-index.invariant

pub returns : goal.returns
returns c = absurd (has_index c.args.parts.now c.args.number c.requires
    (λ k below. c.loop-index.invariant k (omega (arith, below, c.loop-index-test.false))))

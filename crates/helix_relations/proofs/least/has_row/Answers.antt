use Rattle.std.proofs.Common.{length, refl, sym, ◌∙◌, subst, arith}
use Rattle.std.proofs.lemmas.Bool.{false≢true}
use Rattle.helix_relations.specs.Inner.Searched.{HasSome, depth_for, region_of}
use Rattle.helix_relations.proofs.Existing.{some_of_rows, rows_of_some, one_more}
use Rattle.helix_relations.proofs.least.has_row.Goals as goal

pub returns-then-not-has_some-clause-answer : goal.returns-then-not-has_some-clause-answer
returns-then-not-has_some-clause-answer g c = (
  (λ so. absurd (false≢true so)),
  (λ rows. c.if-not-has_some.ensures.answer.1 (some_of_rows c.args.fields.now.nodes.now
      c.args.fields.now.relations.now c.args.levels.now 0 c.requires (length c.loop-index.levels) rows
      c.loop-index.index c.loop-index-test.true)),
)

pub loop-index-preserved : goal.loop-index-preserved
loop-index-preserved g c = (
  one_more
      (λ u. HasSome (region_of c.args.fields.now)
      (depth_for (length c.args.fields.now.nodes.now) (length c.has_some.new.levels)) u) c.loop-index.index
      (λ u below. subst (λ room. HasSome (region_of c.args.fields.now)
      (depth_for (length c.args.fields.now.nodes.now) room) u) (sym c.has_some.auto.levels)
      (c.loop-index.invariant.0 u below))
      (subst (λ room. HasSome (region_of c.args.fields.now)
      (depth_for (length c.args.fields.now.nodes.now) room) c.loop-index.index) (sym c.has_some.auto.levels)
      (c.if-not-has_some.ensures.answer.0 refl)),
  c.has_some.auto.levels ∙ c.loop-index.invariant.1,
  record {
    domain = let one = c.loop-index.invariant.2.domain in let two = c.has_some.ensures.counts.domain in
        omega (arith, one, two);
    moves = let one = c.loop-index.invariant.2.moves in let two = c.has_some.ensures.counts.moves in
        omega (arith, one, two);
  },
  λ none. let one = c.loop-index.invariant.3 none in let two = c.has_some.ensures.few none in omega (arith, one, two),
)

pub returns-clause-answer : goal.returns-clause-answer
returns-clause-answer g c = (
  (λ so. rows_of_some c.args.fields.now.nodes.now c.args.fields.now.relations.now c.args.levels.now 0 c.requires
      (length c.loop-index.levels) (λ u below. c.loop-index.invariant.0 u
      (let over = c.loop-index-test.false in omega (arith, over, below)))),
  (λ rows. refl),
)

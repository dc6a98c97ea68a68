use Rattle.std.proofs.Common.{arith}
use Rattle.std.proofs.lemmas.Bool.{false≢true}
use Rattle.std.proofs.lemmas.List.{length-map}
use Rattle.helix_relations.specs.Inner.Parts.{field_of}
use Rattle.helix_relations.specs.Inner.Searched.{region_of}
use Rattle.helix_relations.proofs.Beginning.{begins_before}
use Rattle.helix_relations.proofs.least.begins.Goals as goal

pub returns-then-not-goes_on-clause-answer : goal.returns-then-not-goes_on-clause-answer
returns-then-not-goes_on-clause-answer g c = (
  (λ so. absurd (false≢true so)),
  (λ begun. c.if-not-goes_on.ensures.answer.1 (begins_before (region_of c.args.fields.now) c.requires.kept.region
      c.args.prefix.now c.args.level
      (let same = length-map c.args.fields.now.nodes.now field_of in let below = c.requires.level in
      omega (arith, same, below)) begun c.loop-before.before c.loop-before-test.true)),
)

use Rattle.std.proofs.Common.{sym, ◌∙◌, arith}
use Rattle.std.proofs.lemmas.Bool.{or_left, or_right}
use Rattle.helix_relations.specs.Inner.FindingLaws.{joined_at, none_joined}
use Rattle.helix_relations.proofs.neighbours.are_joined.Goals as goal

pub returns-then-goes : goal.returns-then-goes
returns-then-goes c = sym (joined_at c.args.one c.args.other c.args.relations.now c.loop-signed.signed-index _
    c.loop-signed-test.true (or_left _ _ (sym c.goes.ensures ∙ c.if-goes.true)))

pub returns-then-goes-2 : goal.returns-then-goes-2
returns-then-goes-2 c = sym (joined_at c.args.one c.args.other c.args.relations.now c.loop-signed.signed-index _
    c.loop-signed-test.true (or_right _ _ (sym c.goes-in-loop-signed.ensures ∙ c.if-goes-2.true)))

pub returns : goal.returns
returns c = sym (none_joined c.args.one c.args.other c.args.relations.now
    (λ k d below. c.loop-signed.invariant k d (omega (arith, below, c.loop-signed-test.false))))

use Rattle.std.proofs.Common.{◌≤◌, arith, subst}
use Rattle.helix_base.specs.Count.{last_count}
use Rattle.helix_relations.specs.CountLaws.{asks_grow, asks_few}
use Rattle.helix_relations.proofs.part.Part.ask.Goals as goal

pub returns-then-not-self-clause-counts : goal.returns-then-not-self-clause-counts
returns-then-not-self-clause-counts g c = asks_grow _ _ c.args.steps.now c.at_or_after.new.steps
    (subst (λ k. k ≤ last_count) c.count.ensures (omega (arith, c.count.type_inv)))
    (subst (λ k. k ≤ last_count) c.count-2.ensures (omega (arith, c.count-2.type_inv))) c.at_or_after.ensures.asked

pub returns-then-not-self-clause-few : goal.returns-then-not-self-clause-few
returns-then-not-self-clause-few g c = asks_few _ _ c.args.steps.now c.at_or_after.new.steps
    (subst (λ k. k ≤ last_count) c.count-2.ensures (omega (arith, c.count-2.type_inv))) c.at_or_after.ensures.asked

use Rattle.std.proofs.Common.{length, ap, arith}
use Rattle.helix_violate.proofs.NegatedAt.{stays_valid, is_violated}
use Rattle.helix_violate.proofs.violation.violate.Goals as goal

pub replace_constraint-requires : goal.replace_constraint-requires
replace_constraint-requires c = λ some few. stays_valid c.args.profile.now c.args.k c.constraints-constraints.result.now
    c.in_ok-negation.negation _ c.constraints-constraints.ensures.value some few c.index-constraints-k.is
    c.in_ok-negation.ensures c.constraints-constraints.ensures.valid

pub returns-in-Ok-clause-violated : goal.returns-in-Ok-clause-violated
returns-in-Ok-clause-violated c =
    is_violated c.args.profile.now c.args.k c.constraints-constraints.result.now c.in_ok-negation.negation _
    c.constraints-constraints.ensures.value (omega arith)
    (omega (arith, ap length c.constraints-constraints.ensures.value)) c.index-constraints-k.is
    c.in_ok-negation.ensures c.replace_constraint.new.self c.in-Ok.ensures.ok

use Rattle.std.proofs.Common.{◌≡◌, true}
use Rattle.helix_places.specs.Places.{Here}
use Rattle.helix_fields.specs.RefusalLaws.{true_refused}
use Rattle.helix_fields.specs.SearchLaws.{none_under}
use Rattle.helix_constraints.specs.Inner.Operands.{passes}
use Rattle.helix_constraints.proofs.form_rule.fault_under.Goals as goal

pub returns-in-Some : goal.returns-in-Some
returns-in-Some c = true_refused c.args.v.now c.in-Some.operand.now c.args.key.now (passes c.args.test)
    c.in-Some.ensures c.passes.result c.passes.ensures c.refused_at.result c.refused_at.ensures

pub returns-in-None : goal.returns-in-None
returns-in-None c = none_under c.args.v.now c.args.key.now (Here (λ w. passes c.args.test w ≡ true)) c.in-None.ensures

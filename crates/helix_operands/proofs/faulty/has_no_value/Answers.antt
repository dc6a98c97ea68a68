use Rattle.std.proofs.Common.{◌↔◌, IfOk, IsTrue, Option, subst}
use Rattle.std.specs.Option.{IsSomeAnd}
use Rattle.helix_operands.specs.Rules.{IsNoValue}
use Rattle.helix_values.specs.declared.kind.Kind.{Kind}
use Rattle.helix_operands.proofs.faulty.has_no_value.Goals as goal

pub returns-in-Some : goal.returns-in-Some
returns-in-Some c =
    let P : Option Kind → Type 0 = λ kinds. IfOk c.is_no_value.result
    (λ answer. IsTrue answer ↔ IsSomeAnd kinds (λ wanted. IsNoValue wanted c.args.operand.now)) in
    subst P c.in-Some.ensures c.is_no_value.ensures

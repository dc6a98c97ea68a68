use Rattle.std.proofs.Common.{◌↔◌, IfOk, IsTrue, subst, sym}
use Rattle.helix_operands.specs.Rules.{IsFaultyMember}
use Rattle.helix_operands.specs.declared.rule.OperandRule.{OperandRule}
use Rattle.helix_operands.proofs.faulty.is_faulty_member.Goals as goal

pub returns-in-Value : goal.returns-in-Value
returns-in-Value c =
    let P : OperandRule → Type 0 = λ rule. IfOk c.is_no_value.result
    (λ answer. IsTrue answer ↔ IsFaultyMember rule c.args.kind c.args.member.now) in
    subst P (sym c.in-Value.is) c.is_no_value.ensures

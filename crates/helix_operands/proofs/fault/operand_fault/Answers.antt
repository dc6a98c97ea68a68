use Rattle.std.proofs.Common.{Option, ℕ, List, subst}
use Rattle.helix_json.specs.declared.value.Json.{Json}
use Rattle.helix_operands.proofs.FirstMember.{finds_member, finds_none}
use Rattle.helix_operands.specs.Inner.Members.{IsFirstIndex, members_under}
use Rattle.helix_operands.specs.Rules.{IsFaultyMember}
use Rattle.helix_operands.proofs.fault.operand_fault.Goals as goal

pub returns-in_ok-item_place-in-Some : goal.returns-in_ok-item_place-in-Some
returns-in_ok-item_place-in-Some c =
    let P : List Json → Type 0 = λ members. IsFirstIndex (IsFaultyMember c.args.rule c.args.kind) members
    c.in_ok-index.field-0 in
    let Q : Option ℕ → Type 0 = λ found. IsFirstIndex (IsFaultyMember c.args.rule c.args.kind)
    (members_under c.args.keyword c.args.operand.now) found in
    finds_member c.args.rule c.args.kind c.args.keyword c.args.operand.now c.in_ok-is_faulty.field-0
    c.in_ok-is_faulty.ensures c.if-branch.false c.in-Some.index
    (subst Q c.in-Some.is (subst P c.members_under.ensures c.in_ok-index.ensures))
    c.in_ok-item_place-in-Some.field-0 c.in_ok-item_place-in-Some.ensures

pub returns-in-None : goal.returns-in-None
returns-in-None c =
    let P : List Json → Type 0 = λ members. IsFirstIndex (IsFaultyMember c.args.rule c.args.kind) members
    c.in_ok-index.field-0 in
    let Q : Option ℕ → Type 0 = λ found. IsFirstIndex (IsFaultyMember c.args.rule c.args.kind)
    (members_under c.args.keyword c.args.operand.now) found in
    finds_none c.args.rule c.args.kind c.args.keyword c.args.operand.now c.in_ok-is_faulty.field-0
    c.in_ok-is_faulty.ensures c.if-branch.false
    (subst Q c.in-None.is (subst P c.members_under.ensures c.in_ok-index.ensures))

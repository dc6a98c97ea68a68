use Rattle.std.proofs.Common.{◌≡◌, ◌∙◌, false, sym}
use Rattle.helix_fields.specs.FaultyMember.{IsFaultyMember}
use Rattle.helix_fields.specs.FieldRules.{is_field_member, is_named_and_typed}
use Rattle.helix_fields.specs.RefusalLaws.{not_both}
use Rattle.helix_fields.specs.SearchLaws.{below_says, top_says}
use Rattle.helix_fields.proofs.field.form_fault.Goals as goal

pub returns-then-is_named_and_typed : goal.returns-then-is_named_and_typed
returns-then-is_named_and_typed c = below_says c.args.field.now (λ field. is_named_and_typed field ≡ false)
    (IsFaultyMember is_field_member) c.faulty_member.result (λ lacks. not_both (is_named_and_typed c.args.field.now)
    (sym c.is_named_and_typed.ensures ∙ c.if-is_named_and_typed.true) lacks) c.faulty_member.ensures

pub returns-else-is_named_and_typed : goal.returns-else-is_named_and_typed
returns-else-is_named_and_typed c = top_says c.args.field.now (λ field. is_named_and_typed field ≡ false)
    (IsFaultyMember is_field_member) c.top.result c.top.ensures
    (sym c.is_named_and_typed.ensures ∙ c.if-is_named_and_typed.false)

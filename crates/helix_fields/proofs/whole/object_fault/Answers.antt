use Rattle.std.proofs.Common.{◌≡◌, ◌∙◌, false, sym}
use Rattle.helix_places.specs.Members.{is_object}
use Rattle.helix_fields.specs.RefusalLaws.{not_both, top_allowed, top_refused}
use Rattle.helix_fields.proofs.whole.object_fault.Goals as goal

pub returns-then-is_object : goal.returns-then-is_object
returns-then-is_object c = top_allowed c.args.v.now (λ v. is_object v ≡ false)
    (λ bad. not_both (is_object c.args.v.now) (sym c.is_object.ensures ∙ c.if-is_object.true) bad)

pub returns-else-is_object : goal.returns-else-is_object
returns-else-is_object c = top_refused c.args.v.now (λ v. is_object v ≡ false) c.top.result c.top.ensures
    (sym c.is_object.ensures ∙ c.if-is_object.false)

use Rattle.std.proofs.Common.{ℕ, is_some, ◌∙◌, ap}
use Rattle.helix_references.specs.Naming.{index_by}
use Rattle.helix_references.specs.AtomLaws.{has_field}
use Rattle.helix_references.proofs.naming.field_of.Goals as goal

pub returns-clause-complete : goal.returns-clause-complete
returns-clause-complete c = λ keyword has unbroken.
    ap (λ o. is_some {T = ℕ} o) (c.index_by.ensures.value ∙ ap (index_by c.args.fields.now) c.value_of.ensures)
    ∙ has_field c.args.fields.now c.args.members.now keyword has unbroken

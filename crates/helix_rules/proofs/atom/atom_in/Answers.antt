use Rattle.std.proofs.Common.{◌∙◌, ap}
use Rattle.helix_references.specs.Naming.{kind_at}
use Rattle.helix_rules.proofs.Atomic.{atom_in_object, no_atom_in}
use Rattle.helix_rules.proofs.atom.atom_in.Goals as goal

pub returns-in-Some : goal.returns-in-Some
returns-in-Some c = atom_in_object c.args.fields.now c.args.v.now c.in-Some.members.now c.form_of.result
    c.kind_at.result c.atom_of.result c.in-Some.ensures.some c.form_of.ensures
    (c.kind_at.ensures ∙ ap (kind_at c.args.fields.now) c.field_of.ensures.value) c.atom_of.ensures

pub returns-in-None : goal.returns-in-None
returns-in-None c = no_atom_in c.args.fields.now c.args.v.now c.in-None.ensures.none

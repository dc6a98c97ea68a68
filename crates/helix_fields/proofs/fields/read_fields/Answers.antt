use Rattle.std.proofs.Common.{◌∙◌, ap, map, sym, subst}
use Rattle.helix_fields.specs.FieldLaws.{fields_are_valid}
use Rattle.helix_fields.specs.TypeLaws.{fields_are_declared}
use Rattle.helix_fields.specs.Fields.{AreValidFields, field_of}
use Rattle.helix_fields.specs.SearchLaws.{if_ok}
use Rattle.helix_fields.proofs.fields.read_fields.Goals as goal

pub returns-clause-declared : goal.returns-clause-declared
returns-clause-declared c = fields_are_declared c.args.alphabet c.args.v.now

pub returns-clause-valid : goal.returns-clause-valid
returns-clause-valid c = λ list form names. if_ok c.each_field.result _ AreValidFields
    (λ fields is. subst AreValidFields (sym (is ∙ ap (map (field_of c.args.alphabet)) c.items_under.ensures))
    (fields_are_valid c.args.alphabet c.args.v.now list form names)) c.each_field.ensures

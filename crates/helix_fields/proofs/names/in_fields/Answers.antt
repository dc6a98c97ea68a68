use Rattle.helix_fields.proofs.FieldNames.{no_names, list_names}
use Rattle.helix_fields.proofs.names.in_fields.Goals as goal

pub returns-in-Some : goal.returns-in-Some
returns-in-Some c = list_names c.args.fields.now c.in-Some.items.now c.in_items.result c.in-Some.ensures.some
    c.in_items.ensures

pub returns-in-None : goal.returns-in-None
returns-in-None c = no_names c.args.fields.now c.in-None.ensures.empty

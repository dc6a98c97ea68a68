use Rattle.std.proofs.Common.{codes}
use Rattle.helix_places.specs.Places.{InItem}
use Rattle.helix_fields.specs.FieldRules.{BreaksUniqueField}
use Rattle.helix_fields.specs.SearchLaws.{member_says, none_under}
use Rattle.helix_fields.proofs.field.unique_fault.Goals as goal

pub returns-in_ok-in_fields-in-Some : goal.returns-in_ok-in_fields-in-Some
returns-in_ok-in_fields-in-Some c = member_says c.args.v.now c.in-Some.fields.now (codes "fields")
    (InItem BreaksUniqueField) c.in-Some.ensures c.in_ok-in_fields-in-Some.field-0 c.within.result c.in_ok-in_fields-in-Some.ensures
    c.within.ensures

pub returns-in-None : goal.returns-in-None
returns-in-None c = none_under c.args.v.now (codes "fields") (InItem BreaksUniqueField) c.in-None.ensures

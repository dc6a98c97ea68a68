use Rattle.std.proofs.Common.{codes}
use Rattle.helix_fields.specs.FieldRules.{BreaksNames}
use Rattle.helix_fields.specs.SearchLaws.{member_says, none_under}
use Rattle.helix_fields.proofs.names.name_fault.Goals as goal

pub returns-in_ok-in_fields-in-Some : goal.returns-in_ok-in_fields-in-Some
returns-in_ok-in_fields-in-Some c = member_says c.args.v.now c.in-Some.fields.now (codes "fields") BreaksNames
    c.in-Some.ensures c.in_ok-in_fields-in-Some.field-0 c.within.result (λ keys. c.in_ok-in_fields-in-Some.ensures)
    c.within.ensures

pub returns-in-None : goal.returns-in-None
returns-in-None c = none_under c.args.v.now (codes "fields") BreaksNames c.in-None.ensures

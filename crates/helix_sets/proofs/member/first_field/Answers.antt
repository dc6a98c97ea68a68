use Rattle.csv.specs.Records.{fields_of}
use Rattle.helix_sets.proofs.Steps.{some_field, no_field}
use Rattle.helix_sets.proofs.member.first_field.Goals as goal

pub returns-in-Some : goal.returns-in-Some
returns-in-Some c = some_field (fields_of c.args.row.now) c.in-Some.field.now c.in-Some.ensures.value

pub returns-in-None : goal.returns-in-None
returns-in-None c = no_field (fields_of c.args.row.now) c.in-None.ensures.value

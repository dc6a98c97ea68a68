use Rattle.helix_validity.proofs.Fields.{few_constraints, valid_fields}
use Rattle.helix_validity.proofs.laws.fields_are_valid.Goals as goal

pub returns-clause-valid : goal.returns-clause-valid
returns-clause-valid c = λ alphabet v unbroken. valid_fields alphabet v unbroken

pub returns-clause-few : goal.returns-clause-few
returns-clause-few c = λ fields sets v cs unbroken given. few_constraints fields sets v cs unbroken given

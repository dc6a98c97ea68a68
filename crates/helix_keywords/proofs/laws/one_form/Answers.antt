use Rattle.helix_keywords.specs.FormLaws.{form_of_has, has_form_of, one_form}
use Rattle.helix_keywords.proofs.laws.one_form.Goals as goal

pub returns-clause-found : goal.returns-clause-found
returns-clause-found c = λ members form. (has_form_of members form, form_of_has members form)

pub returns-clause-one : goal.returns-clause-one
returns-clause-one c = λ members form other. one_form form other members

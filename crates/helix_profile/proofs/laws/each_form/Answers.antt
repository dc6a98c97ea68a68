use Rattle.std.proofs.Common.{true, false}
use Rattle.helix_profile.specs.SatisfactionLaws.{Satisfies-Not, all_of_true, all_of_false, any_of_true, any_of_false, if_true, if_false, if_else}
use Rattle.helix_profile.proofs.laws.each_form.Goals as goal

pub returns-clause-not_true : goal.returns-clause-not_true
returns-clause-not_true c = λ part row. ((Satisfies-Not part row true).1, (Satisfies-Not part row true).0)

pub returns-clause-not_false : goal.returns-clause-not_false
returns-clause-not_false c = λ part row. ((Satisfies-Not part row false).1, (Satisfies-Not part row false).0)

pub returns-clause-all_of_true : goal.returns-clause-all_of_true
returns-clause-all_of_true c = all_of_true

pub returns-clause-all_of_false : goal.returns-clause-all_of_false
returns-clause-all_of_false c = all_of_false

pub returns-clause-any_of_true : goal.returns-clause-any_of_true
returns-clause-any_of_true c = any_of_true

pub returns-clause-any_of_false : goal.returns-clause-any_of_false
returns-clause-any_of_false c = any_of_false

pub returns-clause-if_true : goal.returns-clause-if_true
returns-clause-if_true c = if_true

pub returns-clause-if_false : goal.returns-clause-if_false
returns-clause-if_false c = if_false

pub returns-clause-if_else_true : goal.returns-clause-if_else_true
returns-clause-if_else_true c = λ condition consequent other row. if_else condition consequent other row true

pub returns-clause-if_else_false : goal.returns-clause-if_else_false
returns-clause-if_else_false c = λ condition consequent other row. if_else condition consequent other row false

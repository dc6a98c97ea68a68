use Rattle.helix_json.proofs.Distinct.{value_is_distinct}
use Rattle.helix_json.proofs.KeyRules.{keyed_value}
use Rattle.helix_json.proofs.Nesting.{shallow_value}
use Rattle.helix_json.proofs.Shallow.{value_is_shallow}
use Rattle.helix_json.proofs.laws.rules_of_a_value.Goals as goal

pub returns-clause-keys : goal.returns-clause-keys
returns-clause-keys c = λ v. (value_is_distinct v, keyed_value v)

pub returns-clause-depth : goal.returns-clause-depth
returns-clause-depth c = λ v. (value_is_shallow v, shallow_value v)

use Rattle.helix_json.proofs.OneValue.{one_value_of_bytes}
use Rattle.helix_json.proofs.laws.one_value.Goals as goal

pub returns : goal.returns
returns c = one_value_of_bytes

use Rattle.helix_json.proofs.Values.{numbers_of_bytes}
use Rattle.helix_json.proofs.laws.numbers_of_a_value.Goals as goal

pub returns : goal.returns
returns c = numbers_of_bytes

use Rattle.helix_schema.proofs.Unique.{not_drafted}
use Rattle.helix_schema.proofs.laws.refused_or_drafted.Goals as goal

pub returns : goal.returns
returns c = λ alphabet v refused draft is. not_drafted alphabet v refused draft is

use Rattle.helix_schema.proofs.Unique.{one_refused}
use Rattle.helix_schema.proofs.laws.one_refusal.Goals as goal

pub returns : goal.returns
returns c = λ alphabet v first second one two. one_refused alphabet v first second one two

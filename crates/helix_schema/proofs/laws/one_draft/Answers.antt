use Rattle.helix_schema.proofs.Unique.{same_drafts}
use Rattle.helix_schema.proofs.laws.one_draft.Goals as goal

pub returns : goal.returns
returns c = λ alphabet v first second one two. same_drafts alphabet v first second one two

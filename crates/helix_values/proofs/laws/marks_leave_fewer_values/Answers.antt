use Rattle.helix_values.proofs.MarkCounts.{fewer}
use Rattle.helix_values.proofs.laws.marks_leave_fewer_values.Goals as goal

pub returns : goal.returns
returns c = fewer

use Rattle.std.proofs.Common.{◌∙◌}
use Rattle.helix_run.proofs.AnswerRows.{IsFlagAnswer-nullable, IsFlagAnswer-never_null}
use Rattle.helix_run.proofs.rows.answer.Goals as goal

pub returns-then-nullable : goal.returns-then-nullable
returns-then-nullable c = λ field is. IsFlagAnswer-nullable field (is ∙ c.if-nullable.true)

pub returns-else-nullable : goal.returns-else-nullable
returns-else-nullable c = λ field is. IsFlagAnswer-never_null field (is ∙ c.if-nullable.false)

use Rattle.helix_profile.specs.Good.{IsGood}
use Rattle.helix_profile.specs.AnswerLaws.{one_answer}
use Rattle.helix_values.proofs.TotalOrder.{row_cmp_total}
use Rattle.helix_profile.proofs.laws.one_answer_list.Goals as goal

pub returns : goal.returns
returns c = λ profile. one_answer row_cmp_total (IsGood profile)

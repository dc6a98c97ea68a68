use Rattle.helix_profile.specs.Good.{IsGood}
use Rattle.helix_profile.specs.AnswerLaws.{one_rest}
use Rattle.helix_values.proofs.TotalOrder.{row_cmp_total}
use Rattle.helix_profile.proofs.laws.one_rest.Goals as goal

pub returns : goal.returns
returns c = λ profile. one_rest row_cmp_total (IsGood profile)

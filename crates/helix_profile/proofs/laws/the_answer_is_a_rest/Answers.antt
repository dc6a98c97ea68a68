use Rattle.helix_profile.specs.Good.{IsGood}
use Rattle.helix_profile.specs.AnswerLaws.{answer_is_rest}
use Rattle.helix_profile.proofs.laws.the_answer_is_a_rest.Goals as goal

pub returns : goal.returns
returns c = λ profile. answer_is_rest (IsGood profile)

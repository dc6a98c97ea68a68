use Rattle.helix_profile.specs.Good.{IsGood}
use Rattle.helix_profile.specs.AnswerLaws.{rest_is_prefix}
use Rattle.helix_profile.proofs.laws.the_rest_is_a_prefix.Goals as goal

pub returns : goal.returns
returns c = λ profile. rest_is_prefix (IsGood profile)

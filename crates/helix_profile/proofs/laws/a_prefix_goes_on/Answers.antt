use Rattle.helix_profile.specs.Good.{IsGood}
use Rattle.helix_profile.specs.AnswerLaws.{prefix_goes_on, rest_goes_on}
use Rattle.helix_values.proofs.TotalOrder.{row_cmp_total}
use Rattle.helix_profile.proofs.laws.a_prefix_goes_on.Goals as goal

pub returns-clause-prefix : goal.returns-clause-prefix
returns-clause-prefix c = λ profile start rows more last prefix next.
    prefix_goes_on row_cmp_total (IsGood profile) start rows last prefix more next

pub returns-clause-rest : goal.returns-clause-rest
returns-clause-rest c = λ profile start rows more last prefix rest.
    rest_goes_on row_cmp_total (IsGood profile) start rows last prefix more rest

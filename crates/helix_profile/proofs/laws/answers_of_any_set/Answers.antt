use Rattle.helix_profile.specs.AnswerLaws.{one_answer, one_rest, answer_is_rest, rest_is_prefix, prefix_goes_on, rest_goes_on}
use Rattle.helix_values.proofs.TotalOrder.{row_cmp_total}
use Rattle.helix_profile.proofs.laws.answers_of_any_set.Goals as goal

pub returns-clause-one_answer_list : goal.returns-clause-one_answer_list
returns-clause-one_answer_list g c = λ set. one_answer row_cmp_total (g.S.RowSet.Has set)

pub returns-clause-one_rest : goal.returns-clause-one_rest
returns-clause-one_rest g c = λ set. one_rest row_cmp_total (g.S.RowSet.Has set)

pub returns-clause-the_answer_is_a_rest : goal.returns-clause-the_answer_is_a_rest
returns-clause-the_answer_is_a_rest g c = λ set. answer_is_rest (g.S.RowSet.Has set)

pub returns-clause-the_rest_is_a_prefix : goal.returns-clause-the_rest_is_a_prefix
returns-clause-the_rest_is_a_prefix g c = λ set. rest_is_prefix (g.S.RowSet.Has set)

pub returns-clause-a_prefix_goes_on : goal.returns-clause-a_prefix_goes_on
returns-clause-a_prefix_goes_on g c = λ set start rows more last prefix next.
    prefix_goes_on row_cmp_total (g.S.RowSet.Has set) start rows last prefix more next

pub returns-clause-the_rest_goes_on : goal.returns-clause-the_rest_goes_on
returns-clause-the_rest_goes_on g c = λ set start rows more last prefix rest.
    rest_goes_on row_cmp_total (g.S.RowSet.Has set) start rows last prefix more rest

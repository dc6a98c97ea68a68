use Rattle.helix_values.proofs.TotalOrder.{row_cmp_total, row_cmp-IsAntisymmetric, never_before_itself}
use Rattle.helix_values.proofs.laws.rows_have_a_total_order.Goals as goal

pub returns-clause-total : goal.returns-clause-total
returns-clause-total c = row_cmp_total

pub returns-clause-antisymmetric : goal.returns-clause-antisymmetric
returns-clause-antisymmetric c = row_cmp-IsAntisymmetric

pub returns-clause-irreflexive : goal.returns-clause-irreflexive
returns-clause-irreflexive c = never_before_itself row_cmp_total

pub returns-clause-transitive : goal.returns-clause-transitive
returns-clause-transitive c = row_cmp_total.trans

use Rattle.helix_values.proofs.TotalOrder.{cell_cmp_total, cell_cmp-IsAntisymmetric, never_before_itself}
use Rattle.helix_values.proofs.laws.cells_have_a_total_order.Goals as goal

pub returns-clause-total : goal.returns-clause-total
returns-clause-total c = cell_cmp_total

pub returns-clause-antisymmetric : goal.returns-clause-antisymmetric
returns-clause-antisymmetric c = cell_cmp-IsAntisymmetric

pub returns-clause-irreflexive : goal.returns-clause-irreflexive
returns-clause-irreflexive c = never_before_itself cell_cmp_total

pub returns-clause-transitive : goal.returns-clause-transitive
returns-clause-transitive c = cell_cmp_total.trans

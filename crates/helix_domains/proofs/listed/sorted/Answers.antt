use Rattle.std.proofs.Common.{is_lt, rules}
use Rattle.std.proofs.lemmas.List.Sorted.{answers_always, ranks_by, Contains-permutation, IsPermutation-sym}
use Rattle.helix_values.proofs.TotalOrder.{cell_cmp_total}
use Rattle.helix_values.specs.Order.{cell_cmp}
use Rattle.helix_domains.proofs.listed.sorted.Goals as goal

pub returns-clause-sorted : goal.returns-clause-sorted
returns-clause-sorted c =
    c.in_ok-sort_by.ensures.sorted (λ x y. is_lt (cell_cmp x y)) (ranks_by cell_cmp_total (λ x. x))
    (answers_always _ _ _ (λ f a r g h. search rules))

pub returns-clause-same : goal.returns-clause-same
returns-clause-same c v = (
  Contains-permutation _ _ v (IsPermutation-sym _ _ c.in_ok-sort_by.ensures.permutation),
  Contains-permutation _ _ v c.in_ok-sort_by.ensures.permutation,
)

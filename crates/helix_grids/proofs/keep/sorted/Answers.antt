use Rattle.std.proofs.Common.{◌≡◌, ◌++◌, ◌∙◌, ap, sym, subst}
use Rattle.std.specs.List.{Contains}
use Rattle.std.proofs.lemmas.List.Sorted.{Contains-permutation, IsPermutation-sym}
use Rattle.helix_grids.proofs.keep.sorted.Goals as goal

pub returns-clause-exact : goal.returns-clause-exact
returns-clause-exact c = λ v.
    let joined : c.extend_from_slice.new.self.items
    ≡ c.args.values.now ++ c.args.others.now =
    c.in_ok-extend_from_slice.ensures.items ∙ ap (λ xs. xs ++ c.args.others.now) c.in_ok-all.ensures.items in
    let moved = c.in_ok-sort.ensures.permutation in (
      (λ has. subst (λ xs. Contains xs v) joined (Contains-permutation _ _ v (IsPermutation-sym _ _ moved) has)),
      (λ has. Contains-permutation _ _ v moved (subst (λ xs. Contains xs v) (sym joined) has)),
    )

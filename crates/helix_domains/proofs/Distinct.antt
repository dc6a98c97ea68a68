-- The cells of a sorted list, each once.
use Rattle.std.proofs.Common.{◌≡◌, ◌↔◌, ℕ, ◌+◌, ◌-◌, ◌<◌, ◌≤◌, false, List, [], ◌∷◌, ◌++◌, length, get_or, take, inl, inr, ◌⊎◌, ⊎_elim, refl, sym, ap, ◌∙◌, subst, arith, Ordering, Result, Ok, Err}
use Rattle.std.specs.declared.cmp.Ordering.TheVariants.{Less, Equal, Greater}
use Rattle.std.specs.List.{AllPairs, Contains}
use Rattle.std.specs.Ordering.{is_lt, ordering_reverse}
use Rattle.std.specs.Result.{IfOk}
use Rattle.std.proofs.lemmas.Bool.{cases_lt}
use Rattle.std.proofs.lemmas.List.{get_or_default, get_or-take, take_all, length-take-le}
use Rattle.std.proofs.lemmas.List.Elements.{Contains-append_left, Contains-push, Contains-push_cases}
use Rattle.std.proofs.lemmas.List.Quantifiers.{all_pairs_push}
use Rattle.std.proofs.lemmas.List.Sorted.{sorted_far, ranks_by}
use Rattle.helix_base.specs.declared.memory.Memory.{Memory}
use Rattle.helix_values.proofs.TotalOrder.{cell_cmp_total, cell_cmp-IsAntisymmetric, never_before_itself}
use Rattle.helix_values.specs.Order.{cell_cmp, CellLess}
use Rattle.helix_values.specs.declared.cell.Cell.{Cell}
use Rattle.helix_domains.specs.Form.{AreAscending}
use Rattle.helix_domains.specs.Inner.Listed.{AreSorted, IsAboveLast, HaveSameCells}
use Rattle.helix_domains.proofs.Walks.{contains_more}

-- a cell above the last of an ascending list is above all
above_all : (all : List Cell) (cell : Cell) → AreAscending all → IsAboveLast all cell → (k : ℕ) (d : Cell)
    → k < length all
    → CellLess (get_or all k d) cell
above_all all cell ascending above k d within = by (cases_lt k (length all - 1))
  where
    by : (k < length all - 1) ⊎ (length all - 1 ≤ k) → CellLess (get_or all k d) cell
    by (inl before) = cell_cmp_total.trans (get_or all k d) (get_or all (length all - 1) d) cell
        (ascending k (length all - 1) d before (omega (arith, within))) (above d (omega (arith, within)))
    by (inr last) =
        let same : length all - 1 ≡ k = omega (arith, within, last) in
        subst (λ j. CellLess (get_or all j d) cell) same (above d (omega (arith, within)))

pub ascending_push : (all : List Cell) (cell : Cell) → AreAscending all → IsAboveLast all cell
    → AreAscending (all ++ cell ∷ [])
ascending_push all cell ascending above = all_pairs_push CellLess all cell ascending
    (above_all all cell ascending above)

-- two cells of which neither is before the other are one
one_cell : (a b : Cell) → is_lt (cell_cmp b a) ≡ false → ¬ CellLess a b → a ≡ b
one_cell a b not_before not_after = by (cell_cmp a b) refl
  where
    by : (o : Ordering) → cell_cmp a b ≡ o → a ≡ b
    by Less e = absurd (not_after e)
    by Equal e = cell_cmp-IsAntisymmetric a b e
    by Greater e =
        let less : cell_cmp b a ≡ Less = cell_cmp_total.antisymm b a ∙ ap ordering_reverse e in
        let t : is_lt (cell_cmp b a) ≡ is_lt Less = ap is_lt less in cc

module _ (cells all : List Cell) (i : ℕ) (cell : Cell) (within : i < length cells) (is : cell ≡ get_or cells i cell)
    (so_far : HaveSameCells (take i cells) all) where
  pub same_in : HaveSameCells (take (i + 1) cells) (all ++ cell ∷ [])
  same_in v =
      let more = contains_more cells i cell v within is in (
        (λ has. ⊎_elim (λ old. more.1 (inl ((so_far v).0 old))) (λ new. more.1 (inr new))
            (Contains-push_cases all cell v has)),
        (λ has. ⊎_elim (λ old. Contains-append_left all (cell ∷ []) v ((so_far v).1 old))
            (λ new. subst (Contains (all ++ cell ∷ [])) new (Contains-push all cell)) (more.0 has)),
      )

  pub same_out : Contains all cell → HaveSameCells (take (i + 1) cells) all
  same_out listed v =
      let more = contains_more cells i cell v within is in (
        (λ has. more.1 (inl ((so_far v).0 has))),
        (λ has. ⊎_elim (λ old. (so_far v).1 old) (λ new. subst (Contains all) new listed) (more.0 has)),
      )

  -- a cell of the sorted list that isn't above the last one so far is that one
  pub is_last : AreSorted cells → ¬ IsAboveLast all cell → Contains all cell
  is_last sorted not_above = by (cases_lt 0 (length all))
    where
      by : (0 < length all) ⊎ (length all ≤ 0) → Contains all cell
      by (inr none) = absurd (not_above (λ d some. absurd (omega (arith, none, some))))
      by (inl some) =
          let last : Cell = get_or all (length all - 1) cell in
          let at : length all - 1 < length all = omega (arith, some) in
          let listed : Contains all last = (length all - 1, at, get_or_default all (length all - 1) last cell at) in
          let early = (so_far last).0 listed in
          let before : early.0 < i = omega (arith, early.1, length-take-le i cells (omega (arith, within))) in
          let there : get_or cells early.0 last ≡ last = sym (get_or-take i cells early.0 last before) ∙ early.2 in
          let here : get_or cells i last ≡ cell = get_or_default cells i last cell within ∙ sym is in
          let far = sorted_far (λ x y. is_lt (cell_cmp x y)) (ranks_by cell_cmp_total (λ x. x)) cells sorted early.0 i
          last
          (omega (arith, before)) within in
          let not_before : is_lt (cell_cmp cell last) ≡ false =
          subst (λ x. is_lt (cell_cmp x last) ≡ false) here
          (subst (λ x. is_lt (cell_cmp (get_or cells i last) x) ≡ false) there far) in
          subst (Contains all) (one_cell last cell not_before
          (λ less. not_above (λ d _. subst (λ x. CellLess x cell) (get_or_default all (length all - 1) cell d at)
          less)))
          listed

pub same_all : (cells all : List Cell) (i : ℕ) → length cells ≤ i → HaveSameCells (take i cells) all
    → HaveSameCells cells all
same_all cells all i past so_far = subst (λ l. HaveSameCells l all) (take_all i cells past) so_far

pub same_through : (cells all slice : List Cell) (result : Result (List Cell) Memory) → slice ≡ all
    → HaveSameCells cells all → IfOk result (HaveSameCells slice) → IfOk result (HaveSameCells cells)
same_through cells all slice (Err e) is same have = tt
same_through cells all slice (Ok done) is same have = λ v. (
  (λ has. (same v).0 (subst (λ l. Contains l v) is ((have v).0 has))),
  (λ has. (have v).1 (subst (λ l. Contains l v) (sym is) ((same v).1 has))),
)

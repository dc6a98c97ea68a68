-- Ascending lists of numbers, and what a binary search in one says.
use Rattle.std.proofs.Common.{◌≡◌, ℕ, ◌<◌, ◌≤◌, ℤ, ◌≤ℤ◌, ◌<ℤ◌, false, List, length, get_or, Less, Equal}
use Rattle.std.proofs.Common.{Greater, arith, sym, ◌∙◌, subst, ⊎_elim}
use Rattle.std.specs.List.{Contains, AllWithin, slice_get}
use Rattle.std.specs.Ordering.{int_cmp, is_lt, ordering_index}
use Rattle.std.specs.List.Sorted.{IsNonDecreasingBy}
use Rattle.std.proofs.lemmas.Int.{ints}
use Rattle.std.proofs.lemmas.Bool.{cases_lt}
use Rattle.std.proofs.lemmas.Cmp.{int_ranked, int_cmp_total}
use Rattle.std.proofs.lemmas.List.Sorted.{sorted_far, ranks_by, searchable_from_sorted}
use Rattle.std.proofs.lemmas.List.{get_or_default}
use Rattle.std.proofs.lemmas.Option.{slice_get-get_or, slice_get_past}
use Rattle.helix_ladders.specs.Scale.{IsLeast}
use Rattle.helix_grids.specs.Tests.{IsLeastOf}
use Rattle.helix_grids.specs.Inner.Sieve.{AreAscending}

pub not_below : (x y : ℤ) → is_lt (int_cmp y x) ≡ false → x ≤ℤ y
not_below x y test = grind (arith, ints)

pub below : (x y : ℤ) → int_cmp x y ≡ Less → x <ℤ y
below x y test = let ranks = int_ranked x y Less (sym test) in ranks

pub above : (x y : ℤ) → int_cmp x y ≡ Greater → y <ℤ x
above x y test = let ranks = int_ranked x y Greater (sym test) in ranks

up_to : (x y : ℤ) → x <ℤ y → x ≤ℤ y
up_to x y less = omega (arith, ints)

pub equal : (x y : ℤ) → int_cmp x y ≡ Equal → x ≡ y
equal x y test = let ranks = int_ranked x y Equal (sym test) in ranks

-- no number of an ascending list is below one before it
pub in_order : (xs : List ℤ) → AreAscending xs → (i j : ℕ) (d : ℤ) → i ≤ j → j < length xs →
    get_or xs i d ≤ℤ get_or xs j d
in_order xs ascending i j d before within =
    not_below _ _ (sorted_far (λ x y. is_lt (int_cmp x y)) (ranks_by int_cmp_total (λ x. x)) xs ascending i j d before
    within)

module _ (xs : List ℤ) (bound : ℤ) (index : ℕ) (lower : AllWithin (λ y. int_cmp y bound ≡ Less) xs 0 index)
    (higher : AllWithin (λ y. int_cmp y bound ≡ Greater) xs index (length xs)) where
  -- a number that isn't below the bound is at the index or after it
  comes_after : (w : ℤ) (k : ℕ) → get_or xs k w ≡ w → bound ≤ℤ w → index ≤ k
  comes_after w k is reached =
      ⊎_elim (λ before. let less : w <ℤ bound = subst (λ z. z <ℤ bound) is
      (below _ _ (lower k w (omega arith) before)) in absurd (omega (arith, ints))) (λ after. after) (cases_lt k index)

  pub missing : ¬ Contains xs bound
  missing (k, within, is) =
      let after : index ≤ k = comes_after bound k is (omega (arith, ints)) in
      let more : bound <ℤ bound = subst (λ z. bound <ℤ z) is (above _ _ (higher k bound after within)) in
      absurd (omega (arith, ints))

  -- no number of the list is after its end
  none_from : length xs ≤ index → (w : ℤ) → ¬ (Contains xs w × (bound ≤ℤ w))
  none_from past w ((k, within, is), reached) = let after : index ≤ k = comes_after w k is reached in
      absurd (omega arith)

  -- each number that isn't below the bound is at least the one at the index
  least_is_first : AreAscending xs → index < length xs → (w : ℤ) → Contains xs w × (bound ≤ℤ w) →
      get_or xs index bound ≤ℤ w
  least_is_first ascending within w ((k, inside, is), reached) =
      subst (λ z. get_or xs index bound ≤ℤ z) (get_or_default xs k bound w inside ∙ is)
      (in_order xs ascending index k bound (comes_after w k is reached) inside)

  -- the number at the index is the least that isn't below the bound
  least_at : AreAscending xs → index < length xs → IsLeast (λ v. Contains xs v × (bound ≤ℤ v)) (get_or xs index bound)
  least_at ascending within = record {
    has = (
      (index, within, get_or_default xs index _ bound within),
      up_to _ _ (above _ _ (higher index bound (omega arith) within)),
    );
    least = λ w has. least_is_first ascending within w has;
  }

  pub first_at : AreAscending xs → IsLeastOf (λ v. Contains xs v × (bound ≤ℤ v)) (slice_get xs index)
  first_at ascending = ⊎_elim
      (λ within. subst (IsLeastOf (λ v. Contains xs v × (bound ≤ℤ v))) (sym (slice_get-get_or xs index bound within))
      (least_at ascending within))
      (λ past. subst (IsLeastOf (λ v. Contains xs v × (bound ≤ℤ v))) (sym (slice_get_past xs index past))
      (none_from past))
      (cases_lt index (length xs))

-- what a binary search says where it finds no index of a number
module _ (xs : List ℤ) (bound : ℤ) (index : ℕ) (ascending : AreAscending xs)
    (searched : IsNonDecreasingBy (λ y. ordering_index (int_cmp y bound)) xs
    → AllWithin (λ y. int_cmp y bound ≡ Less) xs 0 index
    × AllWithin (λ y. int_cmp y bound ≡ Greater) xs index (length xs)) where
  parts : AllWithin (λ y. int_cmp y bound ≡ Less) xs 0 index
      × AllWithin (λ y. int_cmp y bound ≡ Greater) xs index (length xs)
  parts = searched (searchable_from_sorted int_cmp_total (λ x. x) xs bound ascending)

  pub missing_where_searched : ¬ Contains xs bound
  missing_where_searched = missing xs bound index parts.0 parts.1

  pub first_where_searched : IsLeastOf (λ v. Contains xs v × (bound ≤ℤ v)) (slice_get xs index)
  first_where_searched = first_at xs bound index parts.0 parts.1 ascending

-- A list that keeps the values of another one that meet a condition, one value after the other.
use Rattle.std.proofs.Common.{◌≡◌, ℕ, ◌+◌, ◌-◌, ◌<◌, ℤ, ◌≤ℤ◌, false, List, [], ◌∷◌, ◌++◌, length, get_or}
use Rattle.std.proofs.Common.{take, arith, sym, subst, ⊎_elim}
use Rattle.std.specs.List.{Contains}
use Rattle.std.specs.Ordering.{int_cmp, is_lt}
use Rattle.std.proofs.lemmas.Int.{ints}
use Rattle.std.proofs.lemmas.List.{take_more, length_push, get_or_push, get_or_append_left}
use Rattle.std.proofs.lemmas.List.Elements.{Contains-get_or, Contains-append_left, Contains-push, Contains-push_cases}
use Rattle.std.proofs.lemmas.List.Kept.{IsSortedBy-push}
use Rattle.helix_grids.specs.Inner.Kept.{AreKept}
use Rattle.helix_grids.specs.Inner.Sieve.{AreAscending}
use Rattle.helix_grids.proofs.Ascending.{in_order}

-- a number that is at most another is not after it
test_up_to : (x y : ℤ) → x ≤ℤ y → is_lt (int_cmp y x) ≡ false
test_up_to x y order = grind (arith, ints)

-- an ascending list goes on with a number that none of its numbers is above
ascending_push : (xs : List ℤ) (y : ℤ) → AreAscending xs → ((x : ℤ) → Contains xs x → x ≤ℤ y) →
    AreAscending (xs ++ y ∷ [])
ascending_push xs y ascending most =
    IsSortedBy-push (λ a b. is_lt (int_cmp a b)) xs y ascending
    (λ d some. test_up_to _ _ (most _ (Contains-get_or xs (length xs - 1) d (omega arith))))

-- the prefix of an ascending list is ascending, and none of its numbers is above the last one
ascending_prefix : (xs : List ℤ) (y : ℤ) → AreAscending (xs ++ y ∷ []) → AreAscending xs
ascending_prefix xs y ascending k d from within =
    let prefix : get_or (xs ++ y ∷ []) k d ≡ get_or xs k d = get_or_append_left xs (y ∷ []) d k (omega arith) in
    let after : get_or (xs ++ y ∷ []) (k + 1) d
    ≡ get_or xs (k + 1) d = get_or_append_left xs (y ∷ []) d (k + 1) within in
    rw (← prefix) (rw (← after) (ascending k d from (omega (arith, length_push xs y))))

prefix_up_to : (xs : List ℤ) (y : ℤ) → AreAscending (xs ++ y ∷ []) → (x : ℤ) → Contains xs x → x ≤ℤ y
prefix_up_to xs y ascending x (k, within, is) =
    let order : get_or (xs ++ y ∷ []) k x ≤ℤ get_or (xs ++ y ∷ []) (length xs) x = in_order (xs ++ y ∷ []) ascending k
    (length xs) x (omega arith) (omega (arith, length_push xs y)) in
    let last : get_or (xs ++ y ∷ []) (length xs) x ≡ y = get_or_push xs y x (length xs) (omega arith) in
    let prefix : get_or (xs ++ y ∷ []) k x ≡ get_or xs k x = get_or_append_left xs (y ∷ []) x k within in
    omega (arith, ints)

module _ (Keeps : ℤ → Type 0) (values kept : List ℤ) (so_far : AreKept Keeps values kept) (y : ℤ) where
  -- one more value stays
  pub kept_push : Keeps y → AreKept Keeps (values ++ y ∷ []) (kept ++ y ∷ [])
  kept_push keeps = record {
    exact = λ v. (
      (λ has. ⊎_elim (λ old. let was = (so_far.exact v).0 old in
          (Contains-append_left values (y ∷ []) v was.0, was.1))
          (λ new. (subst (Contains (values ++ y ∷ [])) new (Contains-push values y), subst Keeps new keeps))
          (Contains-push_cases kept y v has)),
      (λ has. ⊎_elim (λ old. Contains-append_left kept (y ∷ []) v ((so_far.exact v).1 (old, has.1)))
          (λ new. subst (Contains (kept ++ y ∷ [])) new (Contains-push kept y)) (Contains-push_cases values y v has.0)),
    );
    ascending = λ ascending. ascending_push kept y (so_far.ascending (ascending_prefix values y ascending))
        (λ x has. prefix_up_to values y ascending x ((so_far.exact x).0 has).0);
  }

  -- one more value goes
  pub kept_skip : ¬ Keeps y → AreKept Keeps (values ++ y ∷ []) kept
  kept_skip goes = record {
    exact = λ v. (
      (λ has. let was = (so_far.exact v).0 has in (Contains-append_left values (y ∷ []) v was.0, was.1)),
      (λ has. ⊎_elim (λ old. (so_far.exact v).1 (old, has.1)) (λ new. absurd (goes (subst Keeps (sym new) has.1)))
          (Contains-push_cases values y v has.0)),
    );
    ascending = λ ascending. so_far.ascending (ascending_prefix values y ascending);
  }

-- the steps of a walk over a list
module _ (Keeps : ℤ → Type 0) (values kept : List ℤ) (i : ℕ) (d : ℤ) (within : i < length values)
    (so_far : AreKept Keeps (take i values) kept) where
  pub kept_more : Keeps (get_or values i d) → AreKept Keeps (take (i + 1) values) (kept ++ get_or values i d ∷ [])
  kept_more keeps = subst (λ prefix. AreKept Keeps prefix (kept ++ get_or values i d ∷ []))
      (sym (take_more values i d within)) (kept_push Keeps (take i values) kept so_far (get_or values i d) keeps)

  pub skipped_more : ¬ Keeps (get_or values i d) → AreKept Keeps (take (i + 1) values) kept
  skipped_more goes = subst (λ prefix. AreKept Keeps prefix kept) (sym (take_more values i d within))
      (kept_skip Keeps (take i values) kept so_far (get_or values i d) goes)

-- What holds of the first items of a list, and then of all.
use Rattle.std.proofs.Common.{◌≡◌, ◌↔◌, ℕ, ◌+◌, ◌<◌, ◌≤◌, List, [], ◌∷◌, ◌++◌, length, get_or, take, drop, ◌⊎◌, sym, subst, arith, ⊎_elim}
use Rattle.std.specs.List.{All, AllByRecursion, Contains}
use Rattle.std.proofs.lemmas.List.{take_more, drop_more}
use Rattle.std.proofs.Math.ListN.{drop_of_length-le}
use Rattle.std.proofs.lemmas.List.Elements.{All-push, All-contains, All-weaker, All-contains_itself, Contains-append_left, Contains-push, Contains-push_cases}

module _ {X : Type 0} where
  pub all_push : (P : X → Type 0) (xs : List X) (x : X) → All P (xs ++ x ∷ []) ↔ (All P xs × P x)
  all_push P xs x = (
    (λ all. (
      All-weaker (Contains xs) P (λ t has. All-contains P (xs ++ x ∷ []) t all
          (Contains-append_left xs (x ∷ []) t has)) xs (All-contains_itself xs),
      All-contains P (xs ++ x ∷ []) x all (Contains-push xs x),
    )),
    (λ both. All-push P xs x both.0 both.1),
  )

  pub all_more : (P : X → Type 0) (xs : List X) (i : ℕ) (x : X) → i < length xs → x ≡ get_or xs i x
      → All P (take (i + 1) xs) ↔ (All P (take i xs) × P x)
  all_more P xs i x within is =
      subst (λ t. All P (take (i + 1) xs) ↔ (All P (take i xs) × P t)) (sym is)
      (subst (λ first. All P first ↔ (All P (take i xs) × P (get_or xs i x))) (sym (take_more xs i x within))
      (all_push P (take i xs) (get_or xs i x)))

  pub all_none : (P : X → Type 0) (xs : List X) → All P (take 0 xs)
  all_none P xs k d within = absurd (omega arith)

  pub contains_more : (xs : List X) (i : ℕ) (x v : X) → i < length xs → x ≡ get_or xs i x
      → Contains (take (i + 1) xs) v ↔ (Contains (take i xs) v ⊎ (x ≡ v))
  contains_more xs i x v within is =
      subst (λ t. Contains (take (i + 1) xs) v ↔ (Contains (take i xs) v ⊎ (t ≡ v))) (sym is)
      (subst (λ first. Contains first v ↔ (Contains (take i xs) v ⊎ (get_or xs i x ≡ v)))
      (sym (take_more xs i x within)) (
        Contains-push_cases (take i xs) (get_or xs i x) v,
        λ either. ⊎_elim (λ old. Contains-append_left (take i xs) (get_or xs i x ∷ []) v old)
            (λ new. subst (Contains (take i xs ++ get_or xs i x ∷ [])) new (Contains-push (take i xs) (get_or xs i x)))
            either,
      ))

  -- what is left of a walk that has passed some items: the whole where all of them passed
  pub rest_more : (P : X → Type 0) (xs : List X) (i : ℕ) (x : X) → i < length xs → x ≡ get_or xs i x → P x
      → (AllByRecursion P (drop i xs) ↔ AllByRecursion P xs) → AllByRecursion P (drop (i + 1) xs) ↔ AllByRecursion P xs
  rest_more P xs i x within is here so_far =
      let split : drop i xs ≡ get_or xs i x ∷ drop (i + 1) xs = drop_more xs i x within in (
        (λ rest. so_far.0 (subst (AllByRecursion P) (sym split) (subst P is here, rest))),
        (λ all. (subst (AllByRecursion P) split (so_far.1 all)).1),
      )

  pub rest_all : (P : X → Type 0) (xs : List X) (i : ℕ) → length xs ≤ i
      → (AllByRecursion P (drop i xs) ↔ AllByRecursion P xs) → AllByRecursion P xs
  rest_all P xs i past so_far = so_far.0 (subst (AllByRecursion P) (sym (drop_of_length-le xs past)) tt)

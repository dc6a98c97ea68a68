-- What holds of the first items of a list, and then of all.
use Rattle.std.proofs.Common.{◌≡◌, ◌↔◌, ℕ, ◌+◌, ◌<◌, List, [], ◌∷◌, ◌++◌, length, get_or, take, sym, subst, arith}
use Rattle.std.specs.List.{All, Contains}
use Rattle.std.proofs.lemmas.List.{take_more}
use Rattle.std.proofs.lemmas.List.Elements.{All-push, All-contains, All-weaker, All-contains_itself, Contains-append_left, Contains-push}

module _ {X : Type 0} where
  pub all_push : (P : X → Type 0) (xs : List X) (x : X) → All P (xs ++ x ∷ []) ↔ (All P xs × P x)
  all_push P xs x = (
    (λ all. (
      All-weaker (Contains xs) P (λ t has. All-contains P (xs ++ x ∷ []) t all
          (Contains-append_left xs (x ∷ []) t has)) xs (All-contains_itself xs),
      All-contains P (xs ++ x ∷ []) x all (Contains-push xs x),
    )),
    (λ both. All-push P xs x both.0 both.1),
  )

  pub all_more : (P : X → Type 0) (xs : List X) (i : ℕ) (x : X) → i < length xs → x ≡ get_or xs i x
      → All P (take (i + 1) xs) ↔ (All P (take i xs) × P x)
  all_more P xs i x within is =
      subst (λ t. All P (take (i + 1) xs) ↔ (All P (take i xs) × P t)) (sym is)
      (subst (λ first. All P first ↔ (All P (take i xs) × P (get_or xs i x))) (sym (take_more xs i x within))
      (all_push P (take i xs) (get_or xs i x)))

  pub all_none : (P : X → Type 0) (xs : List X) → All P (take 0 xs)
  all_none P xs k d within = absurd (omega arith)

-- A walk over the numbers of texts that are read beside a text.
use Rattle.std.proofs.Common.{◌≡◌, ◌↔◌, ℕ, ◌+◌, ◌≤◌, ◌<◌, Option, Some, List, [], ◌∷◌, ◌++◌, length, take, get_or, ⊎_elim, inl, inr, sym, subst, arith}
use Rattle.std.specs.List.{Contains}
use Rattle.std.proofs.lemmas.List.Elements.{Contains-append_left, Contains-push, Contains-push_cases}
use Rattle.std.proofs.lemmas.List.{take_all, get_or_default}
use Rattle.std.proofs.lemmas.Bool.{cases_lt}
use Rattle.helix_values.specs.declared.cell.Cell.{Cell}
use Rattle.helix_values.specs.declared.cell.Cell.TheVariants as cell
use Rattle.helix_domains.specs.Inner.Spelling.{code_in, AreFollowing}
use Rattle.helix_domains.proofs.Walks.{contains_more}

module _ (cells : List Cell) (place : ℕ) (numbers : List ℕ) where
  pub alike_more : (i number code other : ℕ) → i < length numbers → (read : Option ℕ)
      → read ≡ code_in (get_or cells (get_or numbers i number) cell.Null) place
      → (read ≡ Some other) ↔ (read ≡ Some code)
      → ((k : ℕ) → Contains (take i numbers) k → (code_in (get_or cells k cell.Null) place ≡ Some other)
      ↔ (code_in (get_or cells k cell.Null) place ≡ Some code))
      → (k : ℕ) → Contains (take (i + 1) numbers) k → (code_in (get_or cells k cell.Null) place ≡ Some other)
      ↔ (code_in (get_or cells k cell.Null) place ≡ Some code)
  alike_more i number code other within read is alike so_far k has =
      let first : get_or numbers i number ≡ get_or numbers i (get_or numbers i number) =
      get_or_default numbers i number (get_or numbers i number) within in
      ⊎_elim (so_far k)
      (λ same. subst (λ n. (code_in (get_or cells n cell.Null) place ≡ Some other)
      ↔ (code_in (get_or cells n cell.Null) place ≡ Some code)) same
      (subst (λ r. (r ≡ Some other) ↔ (r ≡ Some code)) is alike))
      ((contains_more numbers i (get_or numbers i number) k within first).0 has)

  pub alike_all : (i code other : ℕ) → length numbers ≤ i
      → ((k : ℕ) → Contains (take i numbers) k → (code_in (get_or cells k cell.Null) place ≡ Some other)
      ↔ (code_in (get_or cells k cell.Null) place ≡ Some code))
      → (k : ℕ) → Contains numbers k → (code_in (get_or cells k cell.Null) place ≡ Some other)
      ↔ (code_in (get_or cells k cell.Null) place ≡ Some code)
  alike_all i code other past so_far k has = so_far k (subst (λ l. Contains l k) (sym (take_all i numbers past)) has)

  module _ (code : ℕ) (next : List ℕ) (i : ℕ) where
    pub follow_in : (number : ℕ) → i < length numbers → number ≡ get_or numbers i number
        → code_in (get_or cells number cell.Null) place ≡ Some code
        → AreFollowing cells place (take i numbers) code next
        → AreFollowing cells place (take (i + 1) numbers) code (next ++ number ∷ [])
    follow_in number within is at so_far k =
        let more = contains_more numbers i number k within is in (
          (λ has. ⊎_elim (λ old. let was = (so_far k).0 old in (more.1 (inl was.0), was.1))
              (λ new. (more.1 (inr new), subst (λ n. code_in (get_or cells n cell.Null) place ≡ Some code) new at))
              (Contains-push_cases next number k has)),
          (λ has. ⊎_elim (λ old. Contains-append_left next (number ∷ []) k ((so_far k).1 (old, has.1)))
              (λ new. subst (Contains (next ++ number ∷ [])) new (Contains-push next number)) (more.0 has.0)),
        )

    pub follow_out : (number : ℕ) → i < length numbers → number ≡ get_or numbers i number
        → ¬ (code_in (get_or cells number cell.Null) place ≡ Some code)
        → AreFollowing cells place (take i numbers) code next
        → AreFollowing cells place (take (i + 1) numbers) code next
    follow_out number within is off so_far k =
        let more = contains_more numbers i number k within is in (
          (λ has. let was = (so_far k).0 has in (more.1 (inl was.0), was.1)),
          (λ has. ⊎_elim (λ old. (so_far k).1 (old, has.1))
              (λ new. absurd (off (subst (λ n. code_in (get_or cells n cell.Null) place ≡ Some code) (sym new) has.1)))
              (more.0 has.0)),
        )

    -- the same of a number that is read with any default
    pub follow_in_read : (d : ℕ) → i < length numbers
        → code_in (get_or cells (get_or numbers i d) cell.Null) place ≡ Some code
        → AreFollowing cells place (take i numbers) code next
        → AreFollowing cells place (take (i + 1) numbers) code (next ++ get_or numbers i d ∷ [])
    follow_in_read d within at so_far = follow_in (get_or numbers i d) within
        (get_or_default numbers i d (get_or numbers i d) within) at so_far

    pub follow_out_read : (d : ℕ) → i < length numbers
        → ¬ (code_in (get_or cells (get_or numbers i d) cell.Null) place ≡ Some code)
        → AreFollowing cells place (take i numbers) code next
        → AreFollowing cells place (take (i + 1) numbers) code next
    follow_out_read d within off so_far = follow_out (get_or numbers i d) within
        (get_or_default numbers i d (get_or numbers i d) within) off so_far

  pub follow_all : (code : ℕ) (next : List ℕ) (i : ℕ) → length numbers ≤ i
      → AreFollowing cells place (take i numbers) code next → AreFollowing cells place numbers code next
  follow_all code next i past so_far = subst (λ l. AreFollowing cells place l code next) (take_all i numbers past)
      so_far

pub below_more_number : (n : ℕ) (all more : List ℕ) → more ≡ all ++ n ∷ []
    → ((k : ℕ) → k < n → Contains all k) → (k : ℕ) → k < n + 1 → Contains more k
below_more_number n all more is so_far k below =
    subst (λ l. Contains l k) (sym is) (⊎_elim (λ less. Contains-append_left all (n ∷ []) k (so_far k less))
    (λ not. let same : n ≡ k = omega (arith, not, below) in subst (Contains (all ++ n ∷ [])) same (Contains-push all n))
    (cases_lt k n))

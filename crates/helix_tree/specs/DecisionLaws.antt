-- Facts that hold or don't, from others of which this is known: lemmas for this crate and those above.
use Rattle.std.proofs.Common.{◌≡◌, ℕ, zero, suc, ◌<◌, ◌≤◌, ◌⊎◌, inl, inr, ⊎_elim, Bool, true, false, IsTrue, MatchBool, refl, subst, arith}
use Rattle.std.proofs.lemmas.Bool.{cases_lt}
use Rattle.std.specs.Bool.{Decides}

pub false_is_false : IsTrue false → ⊥
false_is_false e = cc e

pub dec_like : {A B : Type 0} → (A → B) → (B → A) → Dec A → Dec B
dec_like to from (yes a) = yes (to a)
dec_like to from (no none) = no (λ b. none (from b))

pub dec_by : {A : Type 0} (b : Bool) → Decides b A → Dec A
dec_by true decides = yes (decides.0 refl)
dec_by false decides = no (λ a. false_is_false (decides.1 a))

pub dec_true : (b : Bool) → Dec (b ≡ true)
dec_true true = yes refl
dec_true false = no (λ e. cc e)

pub dec_false : (b : Bool) → Dec (b ≡ false)
dec_false true = no (λ e. cc e)
dec_false false = yes refl

pub dec_both : {A B : Type 0} → Dec A → Dec B → Dec (A × B)
dec_both (yes a) (yes b) = yes (a, b)
dec_both (yes a) (no none) = no (λ both. none both.1)
dec_both (no none) b = no (λ both. none both.0)

pub dec_either : {A B : Type 0} → Dec A → Dec B → Dec (A ⊎ B)
dec_either (yes a) b = yes (inl a)
dec_either (no none) (yes b) = yes (inr b)
dec_either (no none) (no neither) = no (⊎_elim none neither)

pub dec_not : {A : Type 0} → Dec A → Dec (¬ A)
dec_not (yes a) = no (λ none. none a)
dec_not (no none) = yes none

pub dec_match : (b : Bool) (A B : Type 0) → Dec A → Dec B → Dec (MatchBool b A B)
dec_match true A B a b = a
dec_match false A B a b = b

-- some number below a limit
abbrev pub Below : (ℕ → Type 0) → ℕ → Type 0
Below P limit = (n : ℕ) × (n < limit) × P n

module _ (P : ℕ → Type 0) where
  last_or_below : (limit : ℕ) → Below P (suc limit) → P limit ⊎ Below P limit
  last_or_below limit (n, below, p) = ⊎_elim (λ b. inr (n, b, p))
      (λ reached. inl (subst P (n_is n limit below reached) p))
      (cases_lt n limit)
    where
      n_is : (n limit : ℕ) → n < suc limit → limit ≤ n → n ≡ limit
      n_is n limit below reached = omega arith

  pub dec_below : ((n : ℕ) → Dec (P n)) → (limit : ℕ) → Dec (Below P limit)
  dec_below each zero = no (λ found. omega (arith, found.1))
  dec_below each (suc limit) = dec_like
      (⊎_elim (λ p. (limit, omega arith, p)) (λ found. (found.0, omega (arith, found.1), found.2)))
      (last_or_below limit) (dec_either (each limit) (dec_below each limit))

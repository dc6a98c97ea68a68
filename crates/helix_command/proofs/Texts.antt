-- Texts that are compared one character after the other.
use Rattle.std.proofs.Common.{◌≡◌, ◌≢◌, ℕ, zero, suc, ◌+◌, ◌<◌, Bool, true, false, ◌&&◌, List, [], ◌∷◌, length, take, drop, get_or, nat_eq, refl, ap, ◌∙◌, arith, add-one}
use Rattle.std.specs.Str.{all_scalars, bytes_eq}
use Rattle.std.proofs.lemmas.Bool.{and_parts, and_from}

eq_suc : (xs ys : List ℕ) (i : ℕ) → i < length xs → length xs ≡ length ys
    → bytes_eq (drop i xs) (drop i ys)
    ≡ (nat_eq (get_or xs i 0) (get_or ys i 0) && bytes_eq (drop (suc i) xs) (drop (suc i) ys))
eq_suc [] ys i within same = absurd (omega arith)
eq_suc (x ∷ xs) [] i within same = absurd (omega arith)
eq_suc (x ∷ xs) (y ∷ ys) zero within same = refl
eq_suc (x ∷ xs) (y ∷ ys) (suc i) within same = eq_suc xs ys i (omega arith) (omega arith)

pub eq_step : (xs ys : List ℕ) (i : ℕ) → i < length xs → length xs ≡ length ys
    → bytes_eq (drop i xs) (drop i ys)
    ≡ (nat_eq (get_or xs i 0) (get_or ys i 0) && bytes_eq (drop (i + 1) xs) (drop (i + 1) ys))
eq_step xs ys i within same = rw add-one (eq_suc xs ys i within same)

and_false : (b : Bool) → (b && false) ≡ false
and_false true = refl
and_false false = refl

pub other_lengths : (xs ys : List ℕ) → length xs ≢ length ys → bytes_eq xs ys ≡ false
other_lengths [] [] other = absurd (other refl)
other_lengths [] (y ∷ ys) other = refl
other_lengths (x ∷ xs) [] other = refl
other_lengths (x ∷ xs) (y ∷ ys) other =
    ap (λ b. nat_eq x y && b) (other_lengths xs ys (λ e. other (ap suc e))) ∙ and_false (nat_eq x y)

-- scalar values after some of them
pub all_scalars-drop : (codes : List ℕ) (at : ℕ) → all_scalars codes ≡ true → all_scalars (drop at codes) ≡ true
all_scalars-drop [] zero all = refl
all_scalars-drop [] (suc at) all = refl
all_scalars-drop (code ∷ codes) zero all = all
all_scalars-drop (code ∷ codes) (suc at) all = all_scalars-drop codes at (and_parts _ (all_scalars codes) all).1

-- and before others
pub all_scalars-take : (codes : List ℕ) (size : ℕ) → all_scalars codes ≡ true → all_scalars (take size codes) ≡ true
all_scalars-take [] zero all = refl
all_scalars-take [] (suc size) all = refl
all_scalars-take (code ∷ codes) zero all = refl
all_scalars-take (code ∷ codes) (suc size) all =
    let parts : (_ ≡ true) × (_ ≡ true) = and_parts _ (all_scalars codes) all in
    and_from _ _ parts.0 (all_scalars-take codes size parts.1)

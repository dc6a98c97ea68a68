-- Lexicographic order of descending lists.
use Rattle.std.proofs.Common.{◌≡◌, ◌≢◌, ℕ, ◌<◌, inl, inr, List, [], ◌∷◌, ◌++◌, refl, ap, ◌∙◌, arith}
use Rattle.helix_explain.specs.Sets.{IsNotAfter}
use Rattle.helix_explain.specs.Inner.Stage.{AreDescending}

-- a list isn't after one that goes further
pub not_after_further : (a b more : List ℕ) → IsNotAfter a b → IsNotAfter a (b ++ more)
not_after_further [] b more not_after = tt
not_after_further (x ∷ a) [] more not_after = absurd not_after
not_after_further (x ∷ a) (y ∷ b) more (inl less) = inl less
not_after_further (x ∷ a) (y ∷ b) more (inr rest) = inr (rest.0, not_after_further a b more rest.1)

-- both go further by a number below all of the second
pub both_further : (a b : List ℕ) (n bound : ℕ) → AreDescending n bound b → IsNotAfter a b
    → IsNotAfter (a ++ n ∷ []) (b ++ n ∷ [])
both_further [] [] n bound below not_after = inr (refl, tt)
both_further [] (y ∷ b) n bound below not_after = inl below.0
both_further (x ∷ a) [] n bound below not_after = absurd not_after
both_further (x ∷ a) (y ∷ b) n bound below (inl less) = inl less
both_further (x ∷ a) (y ∷ b) n bound below (inr rest) = inr (rest.0, both_further a b n y below.2 rest.1)

-- the first goes further by such a number, and is not the second
pub first_further : (a b : List ℕ) (n bound : ℕ) → AreDescending n bound b → IsNotAfter a b → a ≢ b
    → IsNotAfter (a ++ n ∷ []) b
first_further [] [] n bound below not_after other = absurd (other refl)
first_further [] (y ∷ b) n bound below not_after other = inl below.0
first_further (x ∷ a) [] n bound below not_after other = absurd not_after
first_further (x ∷ a) (y ∷ b) n bound below (inl less) other = inl less
first_further (x ∷ a) (y ∷ b) n bound below (inr rest) other =
    inr (rest.0, first_further a b n y below.2 rest.1 (λ same. other (ap (λ z. z ∷ a) rest.0 ∙ ap (λ l. y ∷ l) same)))

-- what both begin with doesn't count
pub not_after_rest : (begin a b : List ℕ) → IsNotAfter (begin ++ a) (begin ++ b) → IsNotAfter a b
not_after_rest [] a b not_after = not_after
not_after_rest (x ∷ begin) a b (inl less) = absurd (omega arith)
not_after_rest (x ∷ begin) a b (inr rest) = not_after_rest begin a b rest.1

-- a list with a greater number in front is after the list
pub after_itself : (n : ℕ) (a : List ℕ) → AreDescending 0 n a → IsNotAfter (n ∷ a) a → ⊥
after_itself n [] below not_after = not_after
after_itself n (x ∷ a) below (inl less) = let lower : x < n = below.1 in absurd (omega arith)
after_itself n (x ∷ a) below (inr rest) =
    let lower : x < n = below.1 in let same : n ≡ x = rest.0 in absurd (omega arith)

-- two lists neither of which is after the other
pub same_lists : (a b : List ℕ) → IsNotAfter a b → IsNotAfter b a → a ≡ b
same_lists [] [] first second = refl
same_lists [] (y ∷ b) first second = absurd second
same_lists (x ∷ a) [] first second = absurd first
same_lists (x ∷ a) (y ∷ b) (inl less) (inl more) = absurd (omega arith)
same_lists (x ∷ a) (y ∷ b) (inl less) (inr rest) = let same : y ≡ x = rest.0 in absurd (omega arith)
same_lists (x ∷ a) (y ∷ b) (inr rest) (inl less) = let same : x ≡ y = rest.0 in absurd (omega arith)
same_lists (x ∷ a) (y ∷ b) (inr rest) (inr other) =
    ap (λ z. z ∷ a) rest.0 ∙ ap (λ l. y ∷ l) (same_lists a b rest.1 other.1)

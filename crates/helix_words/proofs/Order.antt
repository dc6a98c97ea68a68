-- The order of words of one length.
use Rattle.std.proofs.Common.{◌≡◌, ◌⊎◌, inl, inr, ℕ, ◌+◌, ◌<◌, List, [], ◌∷◌, ◌++◌, length, take, drop, get_or, refl, sym, ap, ◌∙◌, arith, length-take, min, Ordering, nat_cmp}
use Rattle.std.specs.declared.cmp.Ordering.TheVariants.{Less, Equal, Greater}
use Rattle.std.specs.Ordering.{ordering_then, MatchOrdering}
use Rattle.std.specs.Cmp.{nat_cmp_is}
use Rattle.std.specs.Cmp.Lexicographic.{slice_cmp}
use Rattle.std.specs.FinMap.{nat_cmp-IsAntisymmetric, slice_cmp-IsAntisymmetric}
use Rattle.std.proofs.lemmas.Cmp.{nat_list_cmp_total, tied_itself, ranked}
use Rattle.std.proofs.lemmas.List.{take-append-drop, drop_more, take_more_same}
use Rattle.helix_words.specs.Inner.Rests.{IsBefore}

then_assoc : (o p q : Ordering) → ordering_then o (ordering_then p q) ≡ ordering_then (ordering_then o p) q
then_assoc Less p q = refl
then_assoc Equal p q = refl
then_assoc Greater p q = refl

pub then_less : (o p : Ordering) → o ≡ Less → ordering_then o p ≡ Less
then_less Less p is = refl
then_less Equal p is = cc
then_less Greater p is = cc

-- the first parts are compared first, where they are as long
pub cmp_append : (a b x y : List ℕ) → length a ≡ length b
    → slice_cmp nat_cmp (a ++ x) (b ++ y) ≡ ordering_then (slice_cmp nat_cmp a b) (slice_cmp nat_cmp x y)
cmp_append [] [] x y long = refl
cmp_append [] (d ∷ b) x y long = absurd (omega (arith, long))
cmp_append (c ∷ a) [] x y long = absurd (omega (arith, long))
cmp_append (c ∷ a) (d ∷ b) x y long =
    ap (ordering_then (nat_cmp c d)) (cmp_append a b x y (omega (arith, long)))
    ∙ then_assoc (nat_cmp c d) (slice_cmp nat_cmp a b) (slice_cmp nat_cmp x y)

-- words that begin alike are compared by what follows
pub cmp_prefix : (a x y : List ℕ) → slice_cmp nat_cmp (a ++ x) (a ++ y) ≡ slice_cmp nat_cmp x y
cmp_prefix a x y =
    cmp_append a a x y refl ∙ ap (λ o. ordering_then o (slice_cmp nat_cmp x y)) (tied_itself nat_list_cmp_total a)

pub not_itself : (a : List ℕ) → ¬ (IsBefore a a)
not_itself a before = let tied : slice_cmp nat_cmp a a ≡ Equal = tied_itself nat_list_cmp_total a in cc

pub not_both : (a b : List ℕ) → IsBefore a b → ¬ (IsBefore b a)
not_both a b before after = not_itself a (nat_list_cmp_total.trans a b a before after)

-- a smaller first character decides
pub smaller_first : (c d : ℕ) (x y : List ℕ) → c < d → IsBefore (c ∷ x) (d ∷ y)
smaller_first c d x y less = ap (λ o. ordering_then o (slice_cmp nat_cmp x y)) (sym (nat_cmp_is c d Less less))

pub same_first : (c : ℕ) (x y : List ℕ) → slice_cmp nat_cmp (c ∷ x) (c ∷ y) ≡ slice_cmp nat_cmp x y
same_first c x y = cmp_prefix (c ∷ []) x y

first_cases_by : (c d : ℕ) (x y : List ℕ) (o : Ordering) → o ≡ nat_cmp c d → MatchOrdering o (c < d) (c ≡ d) (d < c)
    → ordering_then o (slice_cmp nat_cmp x y) ≡ Less → (c < d) ⊎ (c ≡ d)
first_cases_by c d x y Less is ranks before = inl ranks
first_cases_by c d x y Equal is ranks before = inr ranks
first_cases_by c d x y Greater is ranks before = cc

pub first_cases : (c d : ℕ) (x y : List ℕ) → IsBefore (c ∷ x) (d ∷ y) → (c < d) ⊎ (c ≡ d)
first_cases c d x y before = first_cases_by c d x y (nat_cmp c d) refl (ranked c d (nat_cmp c d) refl) before

-- a list at an index
pub split_at : (xs : List ℕ) (i : ℕ) → i < length xs → xs ≡ take i xs ++ get_or xs i 0 ∷ drop (i + 1) xs
split_at xs i within = sym (take-append-drop i xs) ∙ ap (λ l. take i xs ++ l) (drop_more xs i 0 within)

-- how a greater word differs from a word up to a place: before it, or there
pub data Differs (word other : List ℕ) (place : ℕ) : Type 0 where
  earlier : IsBefore (take place word) (take place other) → Differs word other place
  here : take place other ≡ take place word → get_or word place 0 < get_or other place 0 → Differs word other place
  later : take place other ≡ take place word → take (place + 1) other ≡ take (place + 1) word → Differs word other place

module _ (word other : List ℕ) (place : ℕ) (long : length other ≡ length word) (within : place < length word) where
  compared : slice_cmp nat_cmp word other ≡ ordering_then (slice_cmp nat_cmp (take place word) (take place other))
      (slice_cmp nat_cmp (get_or word place 0 ∷ drop (place + 1) word) (get_or other place 0 ∷ drop (place + 1) other))
  compared =
      ap (λ l. slice_cmp nat_cmp l other) (split_at word place within)
      ∙ ap (λ l. slice_cmp nat_cmp (take place word ++ get_or word place 0 ∷ drop (place + 1) word) l)
      (split_at other place (omega (arith, long)))
      ∙ cmp_append (take place word) (take place other) _ _
      (length-take place word ∙ (ap (λ n. min place n) (sym long) ∙ sym (length-take place other)))

  by_prefix : (o : Ordering) → slice_cmp nat_cmp (take place word) (take place other) ≡ o
      → ordering_then o (slice_cmp nat_cmp (get_or word place 0 ∷ drop (place + 1) word)
      (get_or other place 0 ∷ drop (place + 1) other)) ≡ Less → Differs word other place
  by_prefix Less is before = earlier is
  by_prefix Greater is before = cc
  by_prefix Equal is before =
      let same : take place other ≡ take place word =
      sym (slice_cmp-IsAntisymmetric nat_cmp-IsAntisymmetric (take place word) (take place other) is) in
      elim (first_cases (get_or word place 0) (get_or other place 0) (drop (place + 1) word) (drop (place + 1) other)
      before) [
        | inl less ↦ here same less
        | inr equal ↦ later same (take_more_same other word place 0 (omega (arith, long)) within same (sym equal))
      ]

  pub differs : IsBefore word other → Differs word other place
  differs before = by_prefix (slice_cmp nat_cmp (take place word) (take place other)) refl (sym compared ∙ before)

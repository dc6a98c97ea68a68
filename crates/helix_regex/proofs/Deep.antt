-- How deep groups are nested.
use Rattle.std.proofs.Common.{◌≡◌, ℕ, suc, ◌+◌, ◌≤◌, ◌<◌, max, List, [], ◌∷◌, length, drop, get_or, sym, ◌∙◌, ap, arith, drop-cons, add-one}
use Rattle.std.proofs.lemmas.List.{get_or_default}
use Rattle.helix_regex.specs.declared.token.Token.{Token}
use Rattle.helix_regex.specs.declared.token.Token.TheVariants as token
use Rattle.helix_regex.specs.Inner.Rules.{level, deepest}

pub least : (d : ℕ) (ts : List Token) → d ≤ deepest d ts
least d [] = omega arith
least d (t ∷ ts) = omega arith

pub level_most : (d : ℕ) (t : Token) → level d t ≤ d + 1
level_most d token.Open = omega arith
level_most d token.Close = omega arith
level_most d _ = omega arith

-- one more token
pub more : (d m x : ℕ) (t : Token) (ts : List Token) → d ≤ m → max m (deepest d (t ∷ ts)) ≡ x
    → max (max m (level d t)) (deepest (level d t) ts) ≡ x
more d m x t ts h e = let k : level d t ≤ deepest (level d t) ts = least (level d t) ts in omega arith

pub drop_at : (ts : List Token) (i : ℕ) (t : Token) → i < length ts → t ≡ get_or ts i t
    → drop i ts ≡ t ∷ drop (i + 1) ts
drop_at ts i t lt e = drop-cons ts i t lt
    ∙ (ap (λ x. x ∷ drop (suc i) ts) (sym e) ∙ ap (λ n. t ∷ drop n ts) (sym (add-one i)))

pub same_at : (ts : List Token) (i : ℕ) (d t : Token) → i < length ts → t ≡ get_or ts i d → t ≡ get_or ts i t
same_at ts i d t lt e = e ∙ get_or_default ts i d t lt

pub step : (ts : List Token) (i d m n k x : ℕ) (t : Token) → i < length ts → t ≡ get_or ts i t → d ≤ m
    → max m (deepest d (drop i ts)) ≡ x → n ≡ level d t → k ≡ max m n
    → (max k (deepest n (drop (i + 1) ts)) ≡ x) × (n ≤ d + 1) × (n ≤ k)
step ts i d m n k x t lt e h f g j =
    let cut : drop i ts ≡ t ∷ drop (i + 1) ts = drop_at ts i t lt e in
    let all : max (max m (level d t)) (deepest (level d t) (drop (i + 1) ts))
    ≡ x = more d m x t (drop (i + 1) ts) h (ap (λ l. max m (deepest d l)) (sym cut) ∙ f) in
    let a : max k (deepest n (drop (i + 1) ts)) ≡ x = ap (λ y. max y (deepest n (drop (i + 1) ts))) j
    ∙ (ap (λ y. max (max m y) (deepest y (drop (i + 1) ts))) g ∙ all) in
    let b : level d t ≤ d + 1 = level_most d t in
    (a, omega arith, omega arith)

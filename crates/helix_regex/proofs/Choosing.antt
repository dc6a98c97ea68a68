-- The first and the least of offsets.
use Rattle.std.proofs.Common.{◌≡◌, ℕ, min, Bool, true, false, ◌||◌, Option, Some, None, List, [], ◌∷◌, ◌++◌, refl, sym, ◌∙◌, ap, arith}
use Rattle.std.proofs.Math.Bool.{or_assoc}
use Rattle.std.specs.List.{list_any}
use Rattle.helix_regex.specs.declared.token.Token.{Token}
use Rattle.helix_regex.specs.Faults.{offset_if, first_of, lesser, least_of}
use Rattle.helix_regex.specs.Inner.Rules.{or_else, some_if, first_some, least_some}

pub or_else-assoc : (a b c : Option ℕ) → or_else (or_else a b) c ≡ or_else a (or_else b c)
or_else-assoc None b c = refl
or_else-assoc (Some x) b c = refl

pub lesser-none : (a : Option ℕ) → lesser a None ≡ a
lesser-none None = refl
lesser-none (Some x) = refl

pub lesser-assoc : (a b c : Option ℕ) → lesser (lesser a b) c ≡ lesser a (lesser b c)
lesser-assoc None b c = refl
lesser-assoc (Some x) None c = refl
lesser-assoc (Some x) (Some y) None = refl
lesser-assoc (Some x) (Some y) (Some z) =
    let e : min (min x y) z ≡ min x (min y z) = omega arith in ap (λ n. Some n) e

pub first_of-append : (xs ys : List ℕ) → first_of (xs ++ ys) ≡ or_else (first_of xs) (first_of ys)
first_of-append [] ys = refl
first_of-append (x ∷ xs) ys = refl

pub least_of-append : (xs ys : List ℕ) → least_of (xs ++ ys) ≡ lesser (least_of xs) (least_of ys)
least_of-append [] ys = refl
least_of-append (x ∷ xs) ys = ap (lesser (Some x)) (least_of-append xs ys)
    ∙ sym (lesser-assoc (Some x) (least_of xs) (least_of ys))

pub first_some-append : (f : Token → Option ℕ) (xs ys : List Token)
    → first_some f (xs ++ ys) ≡ or_else (first_some f xs) (first_some f ys)
first_some-append f [] ys = refl
first_some-append f (x ∷ xs) ys = ap (or_else (f x)) (first_some-append f xs ys)
    ∙ sym (or_else-assoc (f x) (first_some f xs) (first_some f ys))

pub least_some-append : (f : Token → Option ℕ) (xs ys : List Token)
    → least_some f (xs ++ ys) ≡ lesser (least_some f xs) (least_some f ys)
least_some-append f [] ys = refl
least_some-append f (x ∷ xs) ys = ap (lesser (f x)) (least_some-append f xs ys)
    ∙ sym (lesser-assoc (f x) (least_some f xs) (least_some f ys))

pub any-append : (f : Token → Bool) (xs ys : List Token) → list_any f (xs ++ ys) ≡ (list_any f xs || list_any f ys)
any-append f [] ys = refl
any-append f (x ∷ xs) ys = ap (λ b. f x || b) (any-append f xs ys)
    ∙ sym (or_assoc (f x) (list_any f xs) (list_any f ys))

pub first_if : (b : Bool) (at : ℕ) (xs : List ℕ)
    → first_of (offset_if b at ++ xs) ≡ or_else (some_if b at) (first_of xs)
first_if true at xs = refl
first_if false at xs = refl

pub least_if : (b : Bool) (at : ℕ) (xs : List ℕ) → least_of (offset_if b at ++ xs) ≡ lesser (some_if b at) (least_of xs)
least_if true at xs = refl
least_if false at xs = refl

-- Elements of lists.
use Rattle.std.proofs.Common.{◌≡◌, ℕ, zero, suc, ◌⊎◌, inl, inr, Option, None, Some, List, [], ◌∷◌, map, slice_get, Contains, refl, sym, ap, subst, arith}
use Rattle.std.proofs.lemmas.Option.{same_Some}
use Rattle.std.specs.List.{All, AllByRecursion, filter_map, cons_option}
use Rattle.helix_relations.specs.NumberingLaws.{all_of}

pub contained : {A : Type 0} (x : A) (xs : List A) (y : A) → Contains (x ∷ xs) y → (x ≡ y) ⊎ Contains xs y
contained x xs y (zero, within, is) = inl is
contained x xs y (suc k, within, is) = inr (k, omega (arith, within), is)

pub contains_first : {A : Type 0} (x : A) (xs : List A) → Contains (x ∷ xs) x
contains_first x xs = (0, omega arith, refl)

pub contains_later : {A : Type 0} (x : A) (xs : List A) (y : A) → Contains xs y → Contains (x ∷ xs) y
contains_later x xs y (k, within, is) = (suc k, omega (arith, within), is)

-- what holds of all holds of each
pub of_contained : {A : Type 0} (P : A → Type 0) (xs : List A) (y : A) → AllByRecursion P xs → Contains xs y → P y
of_contained P xs y all (k, within, is) = subst P is (all_of P xs all k y within)

-- what a list is mapped to comes from one of its elements
pub mapped : {A B : Type 0} (f : A → B) (xs : List A) (y : B) → Contains (map f xs) y
    → (x : A) × Contains xs x × (f x ≡ y)
mapped f [] y (k, within, is) = absurd (omega (arith, within))
mapped f (x ∷ xs) y (zero, within, is) = (x, contains_first x xs, is)
mapped f (x ∷ xs) y (suc k, within, is) =
    let found = mapped f xs y (k, omega (arith, within), is) in
    (found.0, contains_later x xs found.0 found.1, found.2)

-- what a filter takes comes from one of the elements
with_option : {A B : Type 0} (x : A) (xs : List A) (h : A → Option B) (y : B) (found : Option B) → h x ≡ found
    → (Contains (filter_map h xs) y → (z : A) × Contains xs z × (h z ≡ Some y))
    → Contains (cons_option found (filter_map h xs)) y → (z : A) × Contains (x ∷ xs) z × (h z ≡ Some y)
with_option x xs h y None is others contains =
    let more = others contains in (more.0, contains_later x xs more.0 more.1, more.2)
with_option x xs h y (Some first) is others (zero, within, e) =
    (x, contains_first x xs, subst (λ b. h x ≡ Some b) e is)
with_option x xs h y (Some first) is others (suc k, within, e) =
    let more = others (k, omega (arith, within), e) in (more.0, contains_later x xs more.0 more.1, more.2)

pub filtered : {A B : Type 0} (h : A → Option B) (xs : List A) (y : B) → Contains (filter_map h xs) y
    → (x : A) × Contains xs x × (h x ≡ Some y)
filtered h [] y (k, within, is) = absurd (omega (arith, within))
filtered h (x ∷ xs) y contains = with_option x xs h y (h x) refl (filtered h xs y) contains

-- and the other way round
taken : {B : Type 0} (y : B) (found : Option B) (others : List B) → found ≡ Some y
    → Contains (cons_option found others) y
taken y None others e = cc e
taken y (Some first) others e =
    subst (λ o. Contains (cons_option o others) y) (sym e) (contains_first y others)

passed : {B : Type 0} (y : B) (found : Option B) (others : List B) → Contains others y
    → Contains (cons_option found others) y
passed y None others contains = contains
passed y (Some first) others contains = contains_later first others y contains

pub is_filtered : {A B : Type 0} (h : A → Option B) (xs : List A) (x : A) (y : B) → Contains xs x → h x ≡ Some y
    → Contains (filter_map h xs) y
is_filtered h [] x y (k, within, is) e = absurd (omega (arith, within))
is_filtered h (first ∷ xs) x y (zero, within, is) e =
    taken y (h first) (filter_map h xs) (subst (λ z. h z ≡ Some y) (sym is) e)
is_filtered h (first ∷ xs) x y (suc k, within, is) e =
    passed y (h first) (filter_map h xs) (is_filtered h xs x y (k, omega (arith, within), is) e)

-- what has a number is an element, and an element has one
pub contains_got : {A : Type 0} (xs : List A) (k : ℕ) (y : A) → slice_get xs k ≡ Some y → Contains xs y
contains_got [] k y e = cc e
contains_got (x ∷ xs) zero y e = (0, omega arith, same_Some x y e)
contains_got (x ∷ xs) (suc k) y e = contains_later x xs y (contains_got xs k y e)

pub got_contained : {A : Type 0} (xs : List A) (y : A) (contains : Contains xs y)
    → slice_get xs contains.0 ≡ Some y
got_contained [] y (k, within, is) = absurd (omega (arith, within))
got_contained (x ∷ xs) y (zero, within, is) = ap Some is
got_contained (x ∷ xs) y (suc k, within, is) = got_contained xs y (k, omega (arith, within), is)

-- what holds of each element, by recursion
pub by_recursion : {A : Type 0} (P : A → Type 0) (xs : List A) → All P xs → AllByRecursion P xs
by_recursion P [] all = tt
by_recursion P (x ∷ xs) all =
    (all 0 x (omega arith), by_recursion P xs (λ k d below. all (suc k) d (omega (arith, below))))

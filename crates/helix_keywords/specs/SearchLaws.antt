-- Searches in lists, one element after the other.
use Rattle.std.specs.List.{AllByRecursion}
use Rattle.std.specs.Str.{bytes_eq}
use Rattle.std.proofs.Common.{◌≡◌, ℕ, zero, suc, ◌+◌, ◌<◌, Bool, true, false, cond, List, [], ◌∷◌, length, drop, get_or, find, Option, Some, None, refl, sym, ◌∙◌, ap, arith, add-one}

find_suc : {A : Type 0} (p : A → Bool) (xs : List A) (i : ℕ) (d : A) → i < length xs
    → find p (drop i xs) ≡ cond (p (get_or xs i d)) (Some (get_or xs i d)) (find p (drop (suc i) xs))
find_suc p [] i d within = absurd (omega arith)
find_suc p (x ∷ xs) zero d within = refl
find_suc p (x ∷ xs) (suc i) d within = find_suc p xs i d (omega arith)

find_step : {A : Type 0} (p : A → Bool) (xs : List A) (i : ℕ) (d : A) → i < length xs
    → find p (drop i xs) ≡ cond (p (get_or xs i d)) (Some (get_or xs i d)) (find p (drop (i + 1) xs))
find_step p xs i d within = rw add-one (find_suc p xs i d within)

-- the element with the index doesn't pass
pub find_next : {A : Type 0} (p : A → Bool) (xs : List A) (i : ℕ) (d : A) (o : Option A) → i < length xs
    → p (get_or xs i d) ≡ false → find p (drop i xs) ≡ o → find p (drop (i + 1) xs) ≡ o
find_next p xs i d o within fails is =
    sym (ap (λ b. cond b (Some (get_or xs i d)) (find p (drop (i + 1) xs))) fails) ∙ (sym (find_step p xs i d within)
    ∙ is)

-- it does
pub find_here : {A : Type 0} (p : A → Bool) (xs : List A) (i : ℕ) (d : A) (o : Option A) → i < length xs
    → p (get_or xs i d) ≡ true → find p (drop i xs) ≡ o → Some (get_or xs i d) ≡ o
find_here p xs i d o within passes is =
    sym (ap (λ b. cond b (Some (get_or xs i d)) (find p (drop (i + 1) xs))) passes) ∙ (sym (find_step p xs i d within)
    ∙ is)

-- a word is compared with that of the element with the index, which is another
pub word_next : {A : Type 0} (word_of : A → List ℕ) (word text : List ℕ) (xs : List A) (i : ℕ) (d : A) (o : Option A)
    (answer : Bool) → i < length xs → text ≡ word_of (get_or xs i d) → answer ≡ bytes_eq word text → answer ≡ false
    → find (λ x. bytes_eq word (word_of x)) (drop i xs) ≡ o
    → find (λ x. bytes_eq word (word_of x)) (drop (i + 1) xs) ≡ o
word_next word_of word text xs i d o answer within text_is answer_is other is =
    find_next (λ x. bytes_eq word (word_of x)) xs i d o within
    (ap (bytes_eq word) (sym text_is) ∙ (sym answer_is ∙ other)) is

passes_by : {A : Type 0} (b : Bool) (p : A → Bool) (y : A) (ys : List A) (x : A) → p y ≡ b
    → (find p ys ≡ Some x → p x ≡ true) → cond b (Some y) (find p ys) ≡ Some x → p x ≡ true
passes_by true p y ys x e later is = let same : y ≡ x = cc in ap p (sym same) ∙ e
passes_by false p y ys x e later is = later is

-- what is found passes
pub find_passes : {A : Type 0} (p : A → Bool) (xs : List A) (x : A) → find p xs ≡ Some x → p x ≡ true
find_passes p [] x is = absurd (cc)
find_passes p (y ∷ ys) x is = passes_by (p y) p y ys x refl (λ e. find_passes p ys x e) is

fails_by : {A : Type 0} (b : Bool) (p : A → Bool) (y : A) (ys : List A)
    → (find p ys ≡ None → AllByRecursion (λ x. p x ≡ false) ys) → cond b (Some y) (find p ys) ≡ None
    → (b ≡ false) × AllByRecursion (λ x. p x ≡ false) ys
fails_by true p y ys later is = absurd (cc)
fails_by false p y ys later is = (refl, later is)

-- and nothing is found where nothing passes
pub find_none : {A : Type 0} (p : A → Bool) (xs : List A) → find p xs ≡ None → AllByRecursion (λ x. p x ≡ false) xs
find_none p [] is = tt
find_none p (y ∷ ys) is = fails_by (p y) p y ys (λ e. find_none p ys e) is

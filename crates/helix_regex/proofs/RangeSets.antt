-- Sets of characters as lists of ranges.
use Rattle.std.proofs.Common.{◌≡◌, ℕ, ◌≤◌, inl, inr, min, max, Bool, true, false, ◌||◌, ◌&&◌, List, [], ◌∷◌, ◌++◌, refl, sym, ◌∙◌, ap, arith}
use Rattle.std.proofs.Math.Bool.{or-false, or_assoc}
use Rattle.std.proofs.lemmas.Bool.{and_from, and_parts, or_cases}
use Rattle.helix_base.specs.Ranges.{in_ranges}
use Rattle.helix_base.specs.Alphabet.{is_in_range}
use Rattle.helix_regex.specs.Characters.{is_character}
use Rattle.helix_regex.specs.Inner.Sets.{Gains}
use Rattle.helix_regex.proofs.OneRegex.{within, is_within}

abbrev pub Pairs : Type 0
Pairs = List (ℕ × ℕ)

pub same_test : (a b : Bool) → (a ≡ true → b ≡ true) → (b ≡ true → a ≡ true) → a ≡ b
same_test true b f g = sym (f refl)
same_test false true f g = g refl
same_test false false f g = refl

listed-append : (xs ys : Pairs) (c : ℕ) → in_ranges (xs ++ ys) c ≡ (in_ranges xs c || in_ranges ys c)
listed-append [] ys c = refl
listed-append (x ∷ xs) ys c = ap (λ b. is_in_range c x || b) (listed-append xs ys c)
    ∙ sym (or_assoc (is_in_range c x) (in_ranges xs c) (in_ranges ys c))

listed-push : (xs : Pairs) (r : ℕ × ℕ) (c : ℕ) → in_ranges (xs ++ r ∷ []) c ≡ (in_ranges xs c || is_in_range c r)
listed-push xs r c = listed-append xs (r ∷ []) c ∙ ap (λ b. in_ranges xs c || b) (or-false (is_in_range c r))

pub listed_more : (xs ys : Pairs) (f l : ℕ) → ys ≡ xs ++ (f, l) ∷ [] → Gains (λ c. is_in_range c (f, l)) xs ys
listed_more xs ys f l e = record { all = λ c. ap (λ zs. in_ranges zs c) e ∙ listed-push xs (f, l) c }

pub gains_both : (s t : ℕ → Bool) (xs ys zs : Pairs) → Gains s xs ys → Gains t ys zs → Gains (λ c. s c || t c) xs zs
gains_both s t xs ys zs h k = record {
  all =
      λ c. k.all c ∙ (ap (λ b. b || t c) (h.all c) ∙ or_assoc (in_ranges xs c) (s c) (t c));
}

pub gains_same : (s t : ℕ → Bool) (xs ys : Pairs) → ((c : ℕ) → s c ≡ t c) → Gains s xs ys → Gains t xs ys
gains_same s t xs ys e h = record { all = λ c. h.all c ∙ ap (λ b. in_ranges xs c || b) (e c) }

-- a range cut by another
clipped : (c f l : ℕ) (r : ℕ × ℕ) → is_in_range c (max f r.0, min l r.1) ≡ (is_in_range c r && is_in_range c (f, l))
clipped c f l r = same_test _ _
    (λ e. let (a, b) = within c (max f r.0, min l r.1) e in
    and_from (is_in_range c r) (is_in_range c (f, l)) (is_within c r (omega arith) (omega arith)) (is_within c (
      f,
      l,
    ) (omega arith) (omega arith)))
    (λ e. let (a, b) = and_parts (is_in_range c r) (is_in_range c (f, l)) e in let (x, y) = within c r a in
    let (z, w) = within c (f, l) b in
    is_within c (max f r.0, min l r.1) (omega arith) (omega arith))

three : (x y z i : Bool) → (((x && i) || (y && i)) || (z && i)) ≡ ((x || (y || (z || false))) && i)
three true true true true = refl
three true true true false = refl
three true true false true = refl
three true true false false = refl
three true false true true = refl
three true false true false = refl
three true false false true = refl
three true false false false = refl
three false true true true = refl
three false true true false = refl
three false true false true = refl
three false true false false = refl
three false false true true = refl
three false false true false = refl
three false false false true = refl
three false false false false = refl

pub clip_all : (f l c : ℕ) → ((is_in_range c (max f 0x20, min l 0x7E) || is_in_range c (max f 0xA0, min l 0xD7FF))
    || is_in_range c (max f 0xE000, min l 0x10FFFF)) ≡ (is_character c && is_in_range c (f, l))
clip_all f l c = ap (λ x. (x || is_in_range c (max f 0xA0, min l 0xD7FF))
    || is_in_range c (max f 0xE000, min l 0x10FFFF)) (clipped c f l (0x20, 0x7E))
    ∙ (ap (λ x. ((is_in_range c (0x20, 0x7E) && is_in_range c (f, l)) || x)
    || is_in_range c (max f 0xE000, min l 0x10FFFF)) (clipped c f l (0xA0, 0xD7FF))
    ∙ (ap (λ x. ((is_in_range c (0x20, 0x7E) && is_in_range c (f, l))
    || (is_in_range c (0xA0, 0xD7FF) && is_in_range c (f, l))) || x) (clipped c f l (0xE000, 0x10FFFF))
    ∙ three (is_in_range c (0x20, 0x7E)) (is_in_range c (0xA0, 0xD7FF)) (is_in_range c (0xE000, 0x10FFFF))
    (is_in_range c (f, l))))

pub clips : (f l : ℕ) (xs ys zs ws : Pairs) → Gains (λ c. is_in_range c (max f 0x20, min l 0x7E)) xs ys
    → Gains (λ c. is_in_range c (max f 0xA0, min l 0xD7FF)) ys zs
    → Gains (λ c. is_in_range c (max f 0xE000, min l 0x10FFFF)) zs ws
    → Gains (λ c. is_character c && is_in_range c (f, l)) xs ws
clips f l xs ys zs ws h k m = gains_same _ _ xs ws (clip_all f l)
    (gains_both _ _ xs zs ws (gains_both _ _ xs ys zs h k) m)

-- characters are at most U+10FFFF
pub highest : (c : ℕ) → is_character c ≡ true → c ≤ 0x10FFFF
highest c e = elim (or_cases _ _ e) [
  | inl f ↦ let (a, b) = within c (0x20, 0x7E) f in omega arith
  | inr f ↦ (elim (or_cases _ _ f) [
    | inl g ↦ let (a, b) = within c (0xA0, 0xD7FF) g in omega arith
    | inr g ↦ (elim (or_cases _ _ g) [ inl h ↦ (within c (0xE000, 0x10FFFF) h).1 | inr h ↦ cc ])
  ])
]

-- Bytes that end a cell, and texts that have none of them.
use Rattle.std.proofs.Common.{◌≡◌, ℕ, ◌≤◌, Bool, true, false, ◌&&◌, ◌||◌, ◌==◌, nat_le, List, [], ◌∷◌, ◌++◌, refl, sym, ◌∙◌, ap, ap₂, subst, arith}
use Rattle.std.specs.List.{AllByRecursion}
use Rattle.std.proofs.lemmas.Bool.Decides.{nat_tests}

-- a quote, or from `-` to `z`: no comma, no line feed and no brace
abbrev pub is_inner : ℕ → Bool
is_inner byte = (byte == 34) || (nat_le 45 byte && nat_le byte 122)

abbrev pub IsInner : ℕ → Type 0
IsInner byte = is_inner byte ≡ true

abbrev pub AllInner : List ℕ → Type 0
AllInner bytes = AllByRecursion IsInner bytes

abbrev pub IsStop : ℕ → Type 0
IsStop byte = is_inner byte ≡ false

abbrev Holds : Bool → Type 0
Holds true = Unit {0}
Holds false = ⊥

-- the first byte, and those after it
abbrev first_of : List ℕ → ℕ
first_of [] = 0
first_of (byte ∷ bytes) = byte

abbrev after_first : List ℕ → List ℕ
after_first [] = []
after_first (byte ∷ bytes) = bytes

module _ (a b : ℕ) (x y : List ℕ) (same : a ∷ x ≡ b ∷ y) where
  pub same_first : a ≡ b
  same_first = ap first_of same

  pub same_rest : x ≡ y
  same_rest = ap after_first same

pub not_both : true ≡ false → ⊥
not_both same = subst Holds same tt

pub no_stop : (a b : ℕ) → a ≡ b → IsStop a → IsInner b → ⊥
no_stop a b same stop inner =
    not_both (sym inner ∙ ap is_inner (sym same) ∙ stop)

pub inner_from : (byte : ℕ) → 45 ≤ byte → byte ≤ 122 → IsInner byte
inner_from byte from to = grind (arith, nat_tests)

pub inner-append : (s t : List ℕ) → AllInner s → AllInner t → AllInner (s ++ t)
inner-append [] t of_s of_t = of_t
inner-append (byte ∷ s) t of_s of_t = (of_s.0, inner-append s t of_s.1 of_t)

-- a text without stops ends at the first one
pub split : (s t : List ℕ) (p q : ℕ) (x y : List ℕ) → AllInner s → AllInner t → IsStop p → IsStop q
    → s ++ p ∷ x ≡ t ++ q ∷ y → (s ≡ t) × (p ∷ x ≡ q ∷ y)
split [] [] p q x y of_s of_t stop_p stop_q same = (refl, same)
split [] (c ∷ t) p q x y of_s of_t stop_p stop_q same =
    absurd (no_stop p c (same_first p c x (t ++ q ∷ y) same) stop_p of_t.0)
split (b ∷ s) [] p q x y of_s of_t stop_p stop_q same =
    absurd (no_stop q b (sym (same_first b q (s ++ p ∷ x) y same)) stop_q of_s.0)
split (b ∷ s) (c ∷ t) p q x y of_s of_t stop_p stop_q same =
    let rest : (s ≡ t) × (p ∷ x ≡ q ∷ y) =
    split s t p q x y of_s.1 of_t.1 stop_p stop_q (same_rest b c (s ++ p ∷ x) (t ++ q ∷ y) same) in
    (ap₂ (λ (d : ℕ) (r : List ℕ). d ∷ r) (same_first b c (s ++ p ∷ x) (t ++ q ∷ y) same) rest.0, rest.1)

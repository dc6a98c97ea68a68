-- What has been read of a string's character, and what one more character of the text makes of it.
use Rattle.std.proofs.Common.{◌≡◌, ℕ, ◌+◌, ◌*◌, ◌-◌, ◌≤◌, ◌<◌, inl, inr, zero, suc, Bool, true, false, ◌==◌, ◌&&◌, ◌||◌, nat_le, nat_lt, List, [], ◌∷◌, ◌++◌, length, refl, sym, ◌∙◌, ap, arith}
use Rattle.std.proofs.lemmas.Bool.{leb-true, leb-false, ltb-true, ltb-false, eq-eqb, le-leb, lt-ltb, and_parts}
use Rattle.std.specs.Char.{digit_value}
use Rattle.helix_json.specs.declared.string.StringState.{StringState}
use Rattle.helix_json.specs.declared.string.StringState.TheVariants as state
use Rattle.helix_json.specs.declared.string.StringMove.{StringMove}
use Rattle.helix_json.specs.declared.string.StringMove.TheVariants as move
use Rattle.helix_json.specs.Text.{SpellsUnit, IsLow}
use Rattle.helix_json.specs.Inner.StringSteps.{UnitFine, LowFine, unit_step, low_step}
use Rattle.helix_json.proofs.Decimal.{le_or_lt}
use Rattle.helix_json.proofs.NumberGrammar.{true_not_false}
use Rattle.helix_json.proofs.Choices.{choose}

pub two_true : (a b : Bool) → a ≡ true → b ≡ true → (a && b) ≡ true
two_true true b e f = f
two_true false b e f = cc

all_true : (a b c : Bool) → a ≡ true → b ≡ true → c ≡ true → (a && (b && c)) ≡ true
all_true a b c e f g = two_true a (b && c) e (two_true b c f g)

left_true : (a b : Bool) → a ≡ true → (a || b) ≡ true
left_true true b e = refl
left_true false b e = cc

right_true : (a b : Bool) → b ≡ true → (a || b) ≡ true
right_true true b e = refl
right_true false b e = e

-- hexadecimal digits after a value
abbrev pub HexFrom : ℕ → List ℕ → ℕ → Type 0
HexFrom v [] w = w ≡ v
HexFrom v (d ∷ ds) w = (digit_value d < 16) × HexFrom (v * 16 + digit_value d) ds w

-- the text that led to a state
abbrev pub Prefix : StringState → List ℕ → Type 0
Prefix state.Plain p = p ≡ []
Prefix state.Backslash p = p ≡ 92 ∷ []
Prefix (state.Unit n v) p = (ds : List ℕ) × (p ≡ 92 ∷ 117 ∷ ds) × (length ds ≡ n) × HexFrom 0 ds v
Prefix (state.High high) p = SpellsUnit p high
Prefix (state.HighBackslash high) p = (q : List ℕ) × (p ≡ q ++ 92 ∷ []) × SpellsUnit q high
Prefix (state.Low high n v) p = (q ds : List ℕ) × (p ≡ q ++ 92 ∷ 117 ∷ ds) × (length ds ≡ n) × HexFrom 0 ds v
    × SpellsUnit q high

pub hex_push : (ds : List ℕ) (v w d : ℕ) → HexFrom v ds w → digit_value d < 16
    → HexFrom v (ds ++ d ∷ []) (w * 16 + digit_value d)
hex_push [] v w d h small = (small, ap (λ x. x * 16 + digit_value d) h)
hex_push (e ∷ ds) v w d h small = (h.0, hex_push ds (v * 16 + digit_value e) w d h.1 small)

pub length_push : (ds : List ℕ) (d n : ℕ) → length ds ≡ n → length (ds ++ d ∷ []) ≡ n + 1
length_push [] d n e = ap suc e ∙ omega arith
length_push (x ∷ ds) d zero e = cc
length_push (x ∷ ds) d (suc n) e = let f : length ds ≡ n = omega arith in omega (arith, length_push ds d n f)

-- four digits make a unit
pub unit_of : (ds : List ℕ) (u : ℕ) → length ds ≡ 4 → HexFrom 0 ds u → SpellsUnit (92 ∷ 117 ∷ ds) u
unit_of [] u e h = absurd (omega arith)
unit_of (a ∷ []) u e h = absurd (omega arith)
unit_of (a ∷ b ∷ []) u e h = absurd (omega arith)
unit_of (a ∷ b ∷ c ∷ []) u e h = absurd (omega arith)
unit_of (a ∷ b ∷ c ∷ d ∷ []) u e (ha, (hb, (hc, (hd, is)))) = (a, b, c, d, refl, ha, hb, hc, hd, is ∙ omega arith)
unit_of (a ∷ b ∷ c ∷ d ∷ f ∷ ds) u e h = absurd (omega arith)

below_twelve : (n v h : ℕ) → (n == 1 && (v == 13 && nat_le 12 h)) ≡ false → n ≡ 1 → v ≡ 13 → h < 12
below_twelve n v h e a b = elim (le_or_lt 12 h) [
  | inl le ↦ absurd (true_not_false (sym (all_true _ _ _ (eq-eqb n 1 a) (eq-eqb v 13 b) (le-leb 12 h le)) ∙ e))
  | inr lt ↦ lt
]

not_between : (u : ℕ) → (nat_le 0xD800 u && nat_lt u 0xDC00) ≡ false → 0xD800 ≤ u → 0xDC00 ≤ u
not_between u e from = elim (le_or_lt 0xDC00 u) [
  | inl le ↦ le
  | inr lt ↦ absurd (true_not_false (sym (two_true _ _ (le-leb 0xD800 u from) (lt-ltb u 0xDC00 lt)) ∙ e))
]

thirteen : (n h : ℕ) → ((n == 0 && nat_lt h 13) || (n == 0 && nat_lt 13 h)) ≡ false → n ≡ 0 → h ≡ 13
thirteen n h e z = elim (le_or_lt 13 h) [
  | inl le ↦ (elim (le_or_lt h 13) [
    | inl ge ↦ omega arith
    | inr gt ↦ absurd (true_not_false (sym (right_true _ _ (two_true _ _ (eq-eqb n 0 z) (lt-ltb 13 h gt))) ∙ e))
  ])
  | inr lt ↦ absurd (true_not_false (sym (left_true _ _ (two_true _ _ (eq-eqb n 0 z) (lt-ltb h 13 lt))) ∙ e))
]

twelve : (n h : ℕ) → (n == 1 && nat_lt h 12) ≡ false → n ≡ 1 → 12 ≤ h
twelve n h e o = elim (le_or_lt 12 h) [
  | inl le ↦ le
  | inr lt ↦ absurd (true_not_false (sym (two_true _ _ (eq-eqb n 1 o) (lt-ltb h 12 lt)) ∙ e))
]

not_thirteen : (v h : ℕ) → h < 16 → v * 16 + h < 0xE0 → (v ≡ 13 → h < 12) → v * 16 + h < 0xDC
not_thirteen v h small below low = elim (le_or_lt 13 v) [
  | inl le ↦ (let e : v ≡ 13 = omega arith in let f : h < 12 = low e in omega arith)
  | inr lt ↦ omega arith
]

-- the moves of digits
pub unit_cases : (P : StringMove → Type 0) (n v h : ℕ) → P move.Refuse
    → (h < 16 → (n ≡ 1 → v ≡ 13 → h < 12) → n < 3 → P (move.Go (state.Unit (n + 1) (v * 16 + h))))
    → (h < 16 → 3 ≤ n → 0xD800 ≤ v * 16 + h → v * 16 + h < 0xDC00 → P (move.Go (state.High (v * 16 + h))))
    → (h < 16 → 3 ≤ n → (0xD800 ≤ v * 16 + h → 0xDC00 ≤ v * 16 + h) → P (move.Give (v * 16 + h))) → P (unit_step n v h)
unit_cases P n v h refuse go high give =
    choose P (nat_le 16 h) _ _ (λ _. refuse) (λ small.
    choose P (n == 1 && (v == 13 && nat_le 12 h)) _ _ (λ _. refuse) (λ low.
    choose P (nat_lt n 3) _ _ (λ few. go (leb-false 16 h small) (λ a b. below_twelve n v h low a b) (ltb-true n 3 few))
    (λ many.
    choose P (nat_le 0xD800 (v * 16 + h) && nat_lt (v * 16 + h) 0xDC00) _ _
    (λ is. let p : (nat_le 0xD800 (v * 16 + h) ≡ true) × (nat_lt (v * 16 + h) 0xDC00 ≡ true) = and_parts _ _ is in
    high (leb-false 16 h small) (ltb-false n 3 many) (leb-true _ _ p.0) (ltb-true _ _ p.1))
    (λ is. give (leb-false 16 h small) (ltb-false n 3 many) (λ from. not_between (v * 16 + h) is from)))))

pub low_cases : (P : StringMove → Type 0) (high n v h : ℕ) → P move.Refuse
    → (h < 16 → (n ≡ 0 → h ≡ 13) → (n ≡ 1 → 12 ≤ h) → n < 3 → P (move.Go (state.Low high (n + 1) (v * 16 + h))))
    → (h < 16 → 3 ≤ n → P (move.Give (0x10000 + (high - 0xD800) * 0x400 + (v * 16 + h - 0xDC00))))
    → P (low_step high n v h)
low_cases P high n v h refuse go give =
    choose P (nat_le 16 h) _ _ (λ _. refuse) (λ small.
    choose P ((n == 0 && nat_lt h 13) || (n == 0 && nat_lt 13 h)) _ _ (λ _. refuse) (λ first.
    choose P (n == 1 && nat_lt h 12) _ _ (λ _. refuse) (λ second.
    choose P (nat_lt n 3) _ _
    (λ few. go (leb-false 16 h small) (λ z. thirteen n h first z) (λ o. twelve n h second o) (ltb-true n 3 few))
    (λ many. give (leb-false 16 h small) (ltb-false n 3 many)))))

pub unit_fine : (n v h : ℕ) → UnitFine n v → h < 16 → (n ≡ 1 → v ≡ 13 → h < 12) → n < 3 → UnitFine (n + 1) (v * 16 + h)
unit_fine n v h fine small low few = record {
  few = omega arith;
  zero_is = λ e. absurd (omega arith);
  one_is = λ e. let z : v ≡ 0 = fine.zero_is (omega arith) in omega arith;
  two_is = λ e. let z : v < 16 = fine.one_is (omega arith) in omega arith;
  two_low = λ e below. let z : v < 16 = fine.one_is (omega arith) in let one : n ≡ 1 = omega arith in
      not_thirteen v h small below (low one);
  three_is = λ e. let z : v < 256 = fine.two_is (omega arith) in omega arith;
  three_low = λ e below. let z : v < 0xDC = fine.two_low (omega arith) (omega arith) in omega arith;
}

pub low_fine : (n v h : ℕ) → LowFine n v → h < 16 → (n ≡ 0 → h ≡ 13) → (n ≡ 1 → 12 ≤ h) → n < 3
    → LowFine (n + 1) (v * 16 + h)
low_fine n v h fine small first second few = record {
  few = omega arith;
  zero_is = λ e. absurd (omega arith);
  one_is = λ e. let n0 : n ≡ 0 = omega arith in let z : v ≡ 0 = fine.zero_is n0 in let f : h ≡ 13 = first n0 in
      omega arith;
  two_from = λ e. let n1 : n ≡ 1 = omega arith in let z : v ≡ 13 = fine.one_is n1 in let f : 12 ≤ h = second n1 in
      omega arith;
  two_to = λ e. let n1 : n ≡ 1 = omega arith in let z : v ≡ 13 = fine.one_is n1 in omega arith;
  three_from = λ e. let z : 0xDC ≤ v = fine.two_from (omega arith) in omega arith;
  three_to = λ e. let z : v < 0xE0 = fine.two_to (omega arith) in omega arith;
}

pub unit_start : UnitFine 0 0
unit_start = record {
  few = omega arith;
  zero_is = λ e. refl;
  one_is = λ e. absurd (omega arith);
  two_is = λ e. absurd (omega arith);
  two_low = λ e. absurd (omega arith);
  three_is = λ e. absurd (omega arith);
  three_low = λ e. absurd (omega arith);
}

pub low_start : LowFine 0 0
low_start = record {
  few = omega arith;
  zero_is = λ e. refl;
  one_is = λ e. absurd (omega arith);
  two_from = λ e. absurd (omega arith);
  two_to = λ e. absurd (omega arith);
  three_from = λ e. absurd (omega arith);
  three_to = λ e. absurd (omega arith);
}

pub four : (ds : List ℕ) (c n : ℕ) → length ds ≡ n → 3 ≤ n → n ≤ 3 → length (ds ++ c ∷ []) ≡ 4
four ds c n e many few = omega (arith, length_push ds c n e)

pub no_low : (n v h : ℕ) → UnitFine n v → 3 ≤ n → h < 16 → ¬ (IsLow (v * 16 + h))
no_low n v h fine many small (from, to) = let three : n ≡ 3 = omega (arith, fine.few) in
    let f : v < 0xDC0 = fine.three_low three (omega arith) in omega arith

pub low_last_is : (n v h : ℕ) → LowFine n v → 3 ≤ n → h < 16 → IsLow (v * 16 + h)
low_last_is n v h fine many small = let three : n ≡ 3 = omega (arith, fine.few) in
    let f : 0xDC0 ≤ v = fine.three_from three in let g : v < 0xE00 = fine.three_to three in (omega arith, omega arith)

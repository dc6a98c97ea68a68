-- The characters of a string, read one character of the text after the other.
use Rattle.std.proofs.Common.{◌≡◌, ◌≢◌, ℕ, ◌+◌, ◌*◌, ◌-◌, ◌≤◌, ◌<◌, ◌⊎◌, inl, inr, Bool, true, false, ◌==◌, ◌&&◌, nat_le, nat_lt, Option, Some, None, List, [], ◌∷◌, ◌++◌, refl, sym, ◌∙◌, ap, arith, append_assoc}
use Rattle.std.proofs.lemmas.Bool.{eqb-true, leb-true, ltb-true, le-leb, lt-ltb, cond-true, cond-false, false_from_ne_true, ne_eqb, lt-leb, le-ltb, or_cases, and_parts}
use Rattle.std.proofs.lemmas.List.{append-nil}
use Rattle.std.specs.Char.{digit_value}
use Rattle.helix_json.specs.declared.token.Token.{Token}
use Rattle.helix_json.specs.declared.token.Token.TheVariants as token
use Rattle.helix_json.specs.declared.string.StringState.{StringState}
use Rattle.helix_json.specs.declared.string.StringState.TheVariants as state
use Rattle.helix_json.specs.declared.string.StringMove.TheVariants as move
use Rattle.helix_json.specs.Text.{IsHigh, IsLow, How, itself, by_letter, by_unit, by_pair, SpellsAs, SpellsChars, escaped}
use Rattle.helix_json.specs.Inner.StringSteps.{string_step, give_or_refuse, unit_step, low_step}
use Rattle.helix_json.specs.Inner.Lexer.{between, in_string, lex, on_emission, prepend, string_move}
use Rattle.helix_json.proofs.Decimal.{le_or_lt}

pub prepend_nil : (o : Option (List Token)) → prepend [] o ≡ o
prepend_nil None = refl
prepend_nil (Some us) = refl

pub lex_go : (c : ℕ) (cs sofar : List ℕ) (s next : StringState) → string_step s c ≡ move.Go next
    → lex (c ∷ cs) (in_string sofar s) ≡ lex cs (in_string sofar next)
unfolding lex
lex_go c cs sofar s next e = ap (λ m. on_emission (string_move sofar m) (λ l. lex cs l)) e ∙ prepend_nil _

pub lex_give : (c d : ℕ) (cs sofar : List ℕ) (s : StringState) → string_step s c ≡ move.Give d
    → lex (c ∷ cs) (in_string sofar s) ≡ lex cs (in_string (sofar ++ d ∷ []) state.Plain)
unfolding lex
lex_give c d cs sofar s e = ap (λ m. on_emission (string_move sofar m) (λ l. lex cs l)) e ∙ prepend_nil _

plain_gives : (c : ℕ) → 32 ≤ c → c ≢ 34 → c ≢ 92 → string_step state.Plain c ≡ move.Give c
plain_gives c low quote slash = cond-false _ _ _ (ne_eqb c 34 quote)
    ∙ (cond-false _ _ _ (ne_eqb c 92 slash) ∙ cond-false _ _ _ (le-ltb c 32 low))

letter_gives : (letter c : ℕ) → escaped letter ≡ Some c → string_step state.Backslash letter ≡ move.Give c
letter_gives letter c e =
    cond-false _ _ _ (ne_eqb letter 117 (λ f. let g : None ≡ Some c = ap escaped (sym f) ∙ e in cc))
    ∙ ap give_or_refuse e

unit_goes : (n v h : ℕ) → h < 16 → ((n ≡ 1) → (v ≡ 13) → h < 12) → n < 3
    → unit_step n v h ≡ move.Go (state.Unit (n + 1) (v * 16 + h))
unit_goes n v h small low few = cond-false _ _ _ (lt-leb 16 h small) ∙ (cond-false _ _ _
    (false_from_ne_true _ (λ e. let f : ((n == 1) ≡ true) × ((v == 13 && nat_le 12 h) ≡ true) = and_parts _ _ e in
    let g : ((v == 13) ≡ true) × (nat_le 12 h ≡ true) = and_parts _ _ f.1 in
    let i : h < 12 = low (eqb-true n 1 f.0) (eqb-true v 13 g.0) in let j : 12 ≤ h = leb-true 12 h g.1 in omega arith))
    ∙ cond-true _ _ _ (lt-ltb n 3 few))

unit_last : (v h : ℕ) → h < 16 → (v * 16 + h < 0xD800) ⊎ (0xDC00 ≤ v * 16 + h)
    → unit_step 3 v h ≡ move.Give (v * 16 + h)
unit_last v h small out = cond-false _ _ _ (lt-leb 16 h small) ∙ cond-false _ _ _
    (false_from_ne_true _ (λ e. let f : (nat_le 0xD800 (v * 16 + h) ≡ true)
    × (nat_lt (v * 16 + h) 0xDC00 ≡ true) = and_parts _ _ e in
    let g : 0xD800 ≤ v * 16 + h = leb-true 0xD800 (v * 16 + h) f.0 in
    let i : v * 16 + h < 0xDC00 = ltb-true (v * 16 + h) 0xDC00 f.1 in
    elim out [ inl o ↦ omega arith | inr o ↦ omega arith ]))

and_true : (a b : Bool) → a ≡ true → b ≡ true → (a && b) ≡ true
and_true true b e f = f
and_true false b e f = cc

unit_high : (v h : ℕ) → h < 16 → 0xD800 ≤ v * 16 + h → v * 16 + h < 0xDC00
    → unit_step 3 v h ≡ move.Go (state.High (v * 16 + h))
unit_high v h small low high = cond-false _ _ _ (lt-leb 16 h small) ∙ cond-true _ _ _
    (and_true _ _ (le-leb 0xD800 (v * 16 + h) low) (lt-ltb (v * 16 + h) 0xDC00 high))

first_is : (n h : ℕ) → ((n ≡ 0) → h ≡ 13) → (((n == 0 && nat_lt h 13) ≡ true) ⊎ ((n == 0 && nat_lt 13 h) ≡ true)) → ⊥
first_is n h first (inl f) = let g : ((n == 0) ≡ true) × (nat_lt h 13 ≡ true) = and_parts _ _ f in
    let i : h ≡ 13 = first (eqb-true n 0 g.0) in
    let j : h < 13 = ltb-true h 13 g.1 in omega arith
first_is n h first (inr f) = let g : ((n == 0) ≡ true) × (nat_lt 13 h ≡ true) = and_parts _ _ f in
    let i : h ≡ 13 = first (eqb-true n 0 g.0) in
    let j : 13 < h = ltb-true 13 h g.1 in omega arith

second_is : (n h : ℕ) → ((n ≡ 1) → 12 ≤ h) → (n == 1 && nat_lt h 12) ≡ true → ⊥
second_is n h second e = let g : ((n == 1) ≡ true) × (nat_lt h 12 ≡ true) = and_parts _ _ e in
    let i : 12 ≤ h = second (eqb-true n 1 g.0) in let j : h < 12 = ltb-true h 12 g.1 in omega arith

low_goes : (high n v h : ℕ) → h < 16 → ((n ≡ 0) → h ≡ 13) → ((n ≡ 1) → 12 ≤ h) → n < 3
    → low_step high n v h ≡ move.Go (state.Low high (n + 1) (v * 16 + h))
low_goes high n v h small first second few = cond-false _ _ _ (lt-leb 16 h small)
    ∙ (cond-false _ _ _ (false_from_ne_true _ (λ e. first_is n h first (or_cases _ _ e)))
    ∙ (cond-false _ _ _ (false_from_ne_true _ (second_is n h second)) ∙ cond-true _ _ _ (lt-ltb n 3 few)))

low_last : (high v h : ℕ) → h < 16 → low_step high 3 v h
    ≡ move.Give (0x10000 + (high - 0xD800) * 0x400 + (v * 16 + h - 0xDC00))
low_last high v h small = cond-false _ _ _ (lt-leb 16 h small)

below_or : (h : ℕ) → (12 ≤ h → ⊥) → h < 12
below_or h f = elim (le_or_lt 12 h) [ inl le ↦ absurd (f le) | inr lt ↦ lt ]

out_of : (u w : ℕ) → u ≡ w → ¬ (IsHigh u) → (w < 0xD800) ⊎ (0xDC00 ≤ w)
out_of u w e not_high = elim (le_or_lt 0xD800 u) [
  | inl le ↦ (elim (le_or_lt 0xDC00 u) [ inl past ↦ inr (omega arith) | inr lt ↦ absurd (not_high (le, lt)) ])
  | inr lt ↦ inl (omega arith)
]

-- four digits of a unit that is no surrogate, and of a high one
unit_read : (a b c d : ℕ) (r sofar : List ℕ) (u : ℕ) → digit_value a < 16 → digit_value b < 16 → digit_value c < 16
    → digit_value d < 16
    → u ≡ ((digit_value a * 16 + digit_value b) * 16 + digit_value c) * 16 + digit_value d → ¬ (IsHigh u) → ¬ (IsLow u)
    → lex (a ∷ b ∷ c ∷ d ∷ r) (in_string sofar (state.Unit 0 0)) ≡ lex r (in_string (sofar ++ u ∷ []) state.Plain)
unit_read a b c d r sofar u ha hb hc hd is no_high no_low =
    lex_go a (b ∷ c ∷ d ∷ r) sofar (state.Unit 0 0) _
    (unit_goes 0 0 (digit_value a) ha (λ e. absurd (omega arith)) (omega arith))
    ∙ (lex_go b (c ∷ d ∷ r) sofar (state.Unit 1 (0 * 16 + digit_value a)) _
    (unit_goes 1 (0 * 16 + digit_value a) (digit_value b) hb
    (λ _ e. below_or (digit_value b) (λ f. no_low (omega arith, omega arith))) (omega arith))
    ∙ (lex_go c (d ∷ r) sofar (state.Unit 2 ((0 * 16 + digit_value a) * 16 + digit_value b)) _
    (unit_goes 2 ((0 * 16 + digit_value a) * 16 + digit_value b) (digit_value c) hc (λ e. absurd (omega arith))
    (omega arith))
    ∙ (lex_give d _ r sofar (state.Unit 3 (((0 * 16 + digit_value a) * 16 + digit_value b) * 16 + digit_value c))
    (unit_last (((0 * 16 + digit_value a) * 16 + digit_value b) * 16 + digit_value c) (digit_value d) hd
    (out_of u _ (omega arith) no_high))
    ∙ ap (λ x. lex r (in_string (sofar ++ x ∷ []) state.Plain)) (omega arith))))

high_read : (a b c d : ℕ) (r sofar : List ℕ) (u : ℕ) → digit_value a < 16 → digit_value b < 16 → digit_value c < 16
    → digit_value d < 16
    → u ≡ ((digit_value a * 16 + digit_value b) * 16 + digit_value c) * 16 + digit_value d → IsHigh u
    → lex (a ∷ b ∷ c ∷ d ∷ r) (in_string sofar (state.Unit 0 0)) ≡ lex r (in_string sofar (state.High u))
high_read a b c d r sofar u ha hb hc hd is high =
    lex_go a (b ∷ c ∷ d ∷ r) sofar (state.Unit 0 0) _
    (unit_goes 0 0 (digit_value a) ha (λ e. absurd (omega arith)) (omega arith))
    ∙ (lex_go b (c ∷ d ∷ r) sofar (state.Unit 1 (0 * 16 + digit_value a)) _
    (unit_goes 1 (0 * 16 + digit_value a) (digit_value b) hb
    (λ _ e. omega arith) (omega arith))
    ∙ (lex_go c (d ∷ r) sofar (state.Unit 2 ((0 * 16 + digit_value a) * 16 + digit_value b)) _
    (unit_goes 2 ((0 * 16 + digit_value a) * 16 + digit_value b) (digit_value c) hc (λ e. absurd (omega arith))
    (omega arith))
    ∙ (lex_go d r sofar (state.Unit 3 (((0 * 16 + digit_value a) * 16 + digit_value b) * 16 + digit_value c)) _
    (unit_high (((0 * 16 + digit_value a) * 16 + digit_value b) * 16 + digit_value c) (digit_value d) hd (omega arith)
    (omega arith))
    ∙ ap (λ x. lex r (in_string sofar (state.High x))) (omega arith))))

low_read : (high a b c d : ℕ) (r sofar : List ℕ) (u : ℕ) → digit_value a < 16 → digit_value b < 16 → digit_value c < 16
    → digit_value d < 16
    → u ≡ ((digit_value a * 16 + digit_value b) * 16 + digit_value c) * 16 + digit_value d → IsLow u
    → lex (a ∷ b ∷ c ∷ d ∷ r) (in_string sofar (state.Low high 0 0))
    ≡ lex r (in_string (sofar ++ (0x10000 + (high - 0xD800) * 0x400 + (u - 0xDC00)) ∷ []) state.Plain)
low_read high a b c d r sofar u ha hb hc hd is low =
    lex_go a (b ∷ c ∷ d ∷ r) sofar (state.Low high 0 0) _
    (low_goes high 0 0 (digit_value a) ha (λ e. omega arith) (λ e. absurd (omega arith)) (omega arith))
    ∙ (lex_go b (c ∷ d ∷ r) sofar (state.Low high 1 (0 * 16 + digit_value a)) _
    (low_goes high 1 (0 * 16 + digit_value a) (digit_value b) hb
    (λ e. absurd (omega arith)) (λ e. omega arith) (omega arith))
    ∙ (lex_go c (d ∷ r) sofar (state.Low high 2 ((0 * 16 + digit_value a) * 16 + digit_value b)) _
    (low_goes high 2 ((0 * 16 + digit_value a) * 16 + digit_value b) (digit_value c) hc
    (λ e. absurd (omega arith)) (λ e. absurd (omega arith)) (omega arith))
    ∙ (lex_give d _ r sofar (state.Low high 3 (((0 * 16 + digit_value a) * 16 + digit_value b) * 16 + digit_value c))
    (low_last high (((0 * 16 + digit_value a) * 16 + digit_value b) * 16 + digit_value c) (digit_value d) hd)
    ∙ ap (λ x. lex r (in_string (sofar ++ (0x10000 + (high - 0xD800) * 0x400 + (x - 0xDC00)) ∷ []) state.Plain))
    (omega arith))))

-- one character of a string
char_read : (how : How) (first : List ℕ) (c : ℕ) (t sofar : List ℕ) → SpellsAs how first c
    → lex (first ++ t) (in_string sofar state.Plain) ≡ lex t (in_string (sofar ++ c ∷ []) state.Plain)
char_read itself first c t sofar (is, low, quote, slash) =
    ap (λ f. lex (f ++ t) (in_string sofar state.Plain)) is
    ∙ lex_give c c t sofar state.Plain (plain_gives c low quote slash)
char_read by_letter first c t sofar (letter, is, e) =
    ap (λ f. lex (f ++ t) (in_string sofar state.Plain)) is
    ∙ (lex_go 92 (letter ∷ t) sofar state.Plain state.Backslash refl
    ∙ lex_give letter c t sofar state.Backslash (letter_gives letter c e))
char_read by_unit first u t sofar ((a, b, c, d, is, ha, hb, hc, hd, v), no_high, no_low) =
    ap (λ f. lex (f ++ t) (in_string sofar state.Plain)) is
    ∙ (lex_go 92 (117 ∷ a ∷ b ∷ c ∷ d ∷ t) sofar state.Plain state.Backslash refl
    ∙ (lex_go 117 (a ∷ b ∷ c ∷ d ∷ t) sofar state.Backslash (state.Unit 0 0) refl
    ∙ unit_read a b c d t sofar u ha hb hc hd v no_high no_low))
char_read by_pair first x t sofar (
  one,
  two,
  high,
  low,
  is,
  (a, b, c, d, is_one, ha, hb, hc, hd, v),
  (e, f, g, h, is_two, he, hf, hg, hh, w),
  is_high,
  is_low,
  value,
) =
    ap (λ p. lex (p ++ t) (in_string sofar state.Plain)) (is
    ∙ (ap (λ p. p ++ two) is_one ∙ ap (λ p. (92 ∷ 117 ∷ a ∷ b ∷ c ∷ d ∷ []) ++ p) is_two))
    ∙ (lex_go 92 (117 ∷ a ∷ b ∷ c ∷ d ∷ 92 ∷ 117 ∷ e ∷ f ∷ g ∷ h ∷ t) sofar state.Plain state.Backslash refl
    ∙ (lex_go 117 (a ∷ b ∷ c ∷ d ∷ 92 ∷ 117 ∷ e ∷ f ∷ g ∷ h ∷ t) sofar state.Backslash (state.Unit 0 0) refl
    ∙ (high_read a b c d (92 ∷ 117 ∷ e ∷ f ∷ g ∷ h ∷ t) sofar high ha hb hc hd v is_high
    ∙ (lex_go 92 (117 ∷ e ∷ f ∷ g ∷ h ∷ t) sofar (state.High high) (state.HighBackslash high) refl
    ∙ (lex_go 117 (e ∷ f ∷ g ∷ h ∷ t) sofar (state.HighBackslash high) (state.Low high 0 0) refl
    ∙ (low_read high e f g h t sofar low he hf hg hh w is_low
    ∙ ap (λ y. lex t (in_string (sofar ++ y ∷ []) state.Plain)) (sym value)))))))

pub chars_read : (s inner r sofar : List ℕ) → SpellsChars inner s
    → lex (inner ++ 34 ∷ r) (in_string sofar state.Plain) ≡ prepend (token.Str (sofar ++ s) ∷ []) (lex r between)
unfolding lex
chars_read [] inner r sofar is = ap (λ i. lex (i ++ 34 ∷ r) (in_string sofar state.Plain)) is
    ∙ ap (λ l. prepend (token.Str l ∷ []) (lex r between)) (sym (append-nil sofar))
chars_read (c ∷ cs) inner r sofar (how, first, rest, is, as', others) =
    ap (λ i. lex (i ++ 34 ∷ r) (in_string sofar state.Plain)) is
    ∙ (ap (λ i. lex i (in_string sofar state.Plain)) (append_assoc first rest (34 ∷ r))
    ∙ (char_read how first c (rest ++ 34 ∷ r) sofar as' ∙ (chars_read cs rest r (sofar ++ c ∷ []) others
    ∙ ap (λ l. prepend (token.Str l ∷ []) (lex r between)) (append_assoc sofar (c ∷ []) cs))))

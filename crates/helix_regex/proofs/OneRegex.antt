-- A text spells at most one expression.
use Rattle.std.proofs.Common.{◌≡◌, ℕ, ◌+◌, ◌≤◌, ◌<◌, inl, inr, Bool, true, false, nat_le, ◌||◌, List, [], ◌∷◌, refl, sym, ◌∙◌, ap, subst, arith}
use Rattle.std.proofs.lemmas.Bool.{leb-true, ltb-true, le-leb, cases_lt, cases_order, and_from, and_parts, false_from_ne_true, or_cases}
use Rattle.helix_base.specs.Alphabet.{is_in_range}
use Rattle.helix_base.specs.Ranges.{in_ranges}
use Rattle.helix_expr.specs.declared.expr.Expr.{Chars}
use Rattle.helix_expr.specs.declared.regex.Regex.{Regex}
use Rattle.helix_regex.specs.Pattern.{Pattern, end, bar, caret, dollar, one, group}
use Rattle.helix_regex.specs.Meaning.{are_separate, AreRangesOf, single_has, Parts, HasParts, after_bar, with_piece, quantified, together, has_caret, has_dollar, MeansRegex, SpellsPattern}
use Rattle.helix_regex.proofs.ReadingPatterns.{one_pattern}

abbrev Pairs : Type 0
Pairs = List (ℕ × ℕ)

pub ordered : (r : ℕ × ℕ) (rs : Pairs) → are_separate (r ∷ rs) ≡ true → r.0 ≤ r.1
ordered r [] h = leb-true r.0 r.1 h
ordered r (s ∷ rs) h = leb-true r.0 r.1 (and_parts _ _ (and_parts _ _ h).0).0

pub gap : (r s : ℕ × ℕ) (rs : Pairs) → are_separate (r ∷ s ∷ rs) ≡ true → r.1 + 1 < s.0
gap r s rs h = ltb-true (r.1 + 1) s.0 (and_parts _ _ (and_parts _ _ h).0).1

pub tail : (r : ℕ × ℕ) (rs : Pairs) → are_separate (r ∷ rs) ≡ true → are_separate rs ≡ true
tail r [] h = refl
tail r (s ∷ rs) h = (and_parts _ _ h).1

pub within : (c : ℕ) (r : ℕ × ℕ) → is_in_range c r ≡ true → (r.0 ≤ c) × (c ≤ r.1)
within c r h = (leb-true r.0 c (and_parts _ _ h).0, leb-true c r.1 (and_parts _ _ h).1)

pub is_within : (c : ℕ) (r : ℕ × ℕ) → r.0 ≤ c → c ≤ r.1 → is_in_range c r ≡ true
is_within c r a b = and_from (nat_le r.0 c) (nat_le c r.1) (le-leb r.0 c a) (le-leb c r.1 b)

-- what is listed after a range lies above it, and above one code more
pub above : (r : ℕ × ℕ) (rs : Pairs) (c : ℕ) → are_separate (r ∷ rs) ≡ true → in_ranges rs c ≡ true → r.1 + 1 < c
above r [] c h e = cc
above r (s ∷ rs) c h e = elim (or_cases _ _ e) [
  | inl f ↦ let (low, high) = within c s f in let g : r.1 + 1 < s.0 = gap r s rs h in omega arith
  | inr f ↦
      let g : r.1 + 1 < s.0 = gap r s rs h in
      let o : s.0 ≤ s.1 = ordered s rs (tail r (s ∷ rs) h) in
      let a : s.1 + 1 < c = above s rs c (tail r (s ∷ rs) h) f in omega arith
]

-- the least code of a list is where its first range begins
least : (r : ℕ × ℕ) (rs : Pairs) (c : ℕ) → are_separate (r ∷ rs) ≡ true → in_ranges (r ∷ rs) c ≡ true → r.0 ≤ c
least r rs c h e = elim (or_cases _ _ e) [
  | inl f ↦ (within c r f).0
  | inr f ↦ let o : r.0 ≤ r.1 = ordered r rs h in let a : r.1 + 1 < c = above r rs c h f in omega arith
]

listed_first : (r : ℕ × ℕ) (rs : Pairs) (c : ℕ) → r.0 ≤ c → c ≤ r.1 → in_ranges (r ∷ rs) c ≡ true
listed_first r rs c a b = ap (λ x. x || in_ranges rs c) (is_within c r a b)

-- a code just above a range is not listed
not_listed : (r : ℕ × ℕ) (rs : Pairs) (c : ℕ) → are_separate (r ∷ rs) ≡ true → r.1 < c → c ≤ r.1 + 1
    → in_ranges (r ∷ rs) c ≡ true → ⊥
not_listed r rs c h low high e = elim (or_cases _ _ e) [
  | inl f ↦ let (l, u) = within c r f in omega arith
  | inr f ↦ let a : r.1 + 1 < c = above r rs c h f in omega arith
]

abbrev Same : Pairs → Pairs → Type 0
Same rs ss = (c : ℕ) → in_ranges rs c ≡ in_ranges ss c

first_ends : (r s : ℕ × ℕ) (rs ss : Pairs) → are_separate (r ∷ rs) ≡ true → are_separate (s ∷ ss) ≡ true
    → Same (r ∷ rs) (s ∷ ss) → r.0 ≡ s.0 → ¬ (r.1 < s.1)
first_ends r s rs ss h k same e lt =
    let o : r.0 ≤ r.1 = ordered r rs h in
    not_listed r rs (r.1 + 1) h (omega arith) (omega arith) (same (r.1 + 1)
    ∙ listed_first s ss (r.1 + 1) (omega arith) (omega arith))

begins_first : (r s : ℕ × ℕ) (rs ss : Pairs) → are_separate (r ∷ rs) ≡ true → are_separate (s ∷ ss) ≡ true
    → Same (r ∷ rs) (s ∷ ss) → s.0 ≤ r.0
begins_first r s rs ss h k same = least s ss r.0 k (sym (same r.0)
    ∙ listed_first r rs r.0 (omega arith) (ordered r rs h))

pair_same : (r s : ℕ × ℕ) → r.0 ≡ s.0 → r.1 ≡ s.1 → r ≡ s
pair_same r s e f = let left : ℕ → ℕ × ℕ = λ x. (x, r.1) in let right : ℕ → ℕ × ℕ = λ y. (s.0, y) in
    ap left e ∙ ap right f

out_of_range : (c : ℕ) (r : ℕ × ℕ) → r.1 < c → is_in_range c r ≡ false
out_of_range c r lt = false_from_ne_true (is_in_range c r) (λ e. let (l, u) = within c r e in omega arith)

only_rest : (r : ℕ × ℕ) (rs : Pairs) (c : ℕ) → r.1 < c → in_ranges (r ∷ rs) c ≡ in_ranges rs c
only_rest r rs c lt = ap (λ x. x || in_ranges rs c) (out_of_range c r lt)

none_below : (r : ℕ × ℕ) (rs : Pairs) (c : ℕ) → are_separate (r ∷ rs) ≡ true → c ≤ r.1 → in_ranges rs c ≡ false
none_below r rs c h le = false_from_ne_true (in_ranges rs c) (λ e. let a : r.1 + 1 < c = above r rs c h e in
    omega arith)

rest_same : (r : ℕ × ℕ) (rs ss : Pairs) → are_separate (r ∷ rs) ≡ true → are_separate (r ∷ ss) ≡ true
    → Same (r ∷ rs) (r ∷ ss) → Same rs ss
rest_same r rs ss h k same c = elim (cases_lt r.1 c) [
  | inl lt ↦ sym (only_rest r rs c lt) ∙ (same c ∙ only_rest r ss c lt)
  | inr le ↦ none_below r rs c h le ∙ sym (none_below r ss c k le)
]

pub same_ranges : (rs ss : Pairs) → are_separate rs ≡ true → are_separate ss ≡ true → Same rs ss → rs ≡ ss
same_ranges [] [] h k same = refl
same_ranges [] (s ∷ ss) h k same = let e : false ≡ true = same s.0
    ∙ listed_first s ss s.0 (omega arith) (ordered s ss k) in cc
same_ranges (r ∷ rs) [] h k same = let e : true ≡ false = sym (listed_first r rs r.0 (omega arith) (ordered r rs h))
    ∙ same r.0 in cc
same_ranges (r ∷ rs) (s ∷ ss) h k same =
    let a : s.0 ≤ r.0 = begins_first r s rs ss h k same in
    let b : r.0 ≤ s.0 = begins_first s r ss rs k h (λ c. sym (same c)) in
    let first : r.0 ≡ s.0 = omega arith in
    let last : r.1 ≡ s.1 = elim (cases_order r.1 s.1) [
      | inl e ↦ e
      | inr f ↦ (elim f [
        | inl lt ↦ absurd (first_ends r s rs ss h k same first lt)
        | inr lt ↦ absurd (first_ends s r ss rs k h (λ c. sym (same c)) (sym first) lt)
      ])
    ] in
    let e : r ≡ s = pair_same r s first last in
    let h2 : are_separate (s ∷ rs) ≡ true = subst (λ x. are_separate (x ∷ rs) ≡ true) e h in
    let same2 : Same (s ∷ rs) (s ∷ ss) = subst (λ x. Same (x ∷ rs) (s ∷ ss)) e same in
    ap (λ x. x ∷ rs) e ∙ ap (λ l. s ∷ l) (same_ranges rs ss (tail s rs h2) (tail s ss k) (rest_same s rs ss h2 k same2))

pub one_list : (has : ℕ → Bool) (rs ss : Pairs) → AreRangesOf has rs → AreRangesOf has ss → rs ≡ ss
one_list has rs ss h k = same_ranges rs ss h.separate k.separate (λ c. h.same c ∙ sym (k.same c))

one_parts : (p : Pattern) (a b : Parts) → HasParts p a → HasParts p b → a ≡ b
one_parts end a b h k = h ∙ sym k
one_parts (bar p) a b (r, h, e) (s, k, f) = e ∙ (ap after_bar (one_parts p r s h k) ∙ sym f)
one_parts (caret p) a b h k = one_parts p a b h k
one_parts (dollar p) a b h k = one_parts p a b h k
one_parts (one s q p) a b (rs, r, are, h, e) (ss, t, are2, k, f) =
    e ∙ (ap (λ l. with_piece (quantified q (Chars l)) r) (one_list (single_has s) rs ss are are2)
    ∙ (ap (λ x. with_piece (quantified q (Chars ss)) x) (one_parts p r t h k) ∙ sym f))
one_parts (group bare inner q p) a b (w, r, g, h, e) (v, t, j, k, f) =
    e ∙ (ap (λ x. with_piece (quantified q (together x)) r) (one_parts inner w v g j)
    ∙ (ap (λ x. with_piece (quantified q (together v)) x) (one_parts p r t h k) ∙ sym f))

pub one_meaning : (p : Pattern) (r s : Regex) → MeansRegex p r → MeansRegex p s → r ≡ s
one_meaning p r s (a, h, e) (b, k, f) =
    e ∙ (ap (λ x. record { expr = together x; at_start = has_caret p; at_end = has_dollar p }) (one_parts p a b h k)
    ∙ sym f)

pub one_regex : (text : List ℕ) (r s : Regex) → SpellsPattern text r → SpellsPattern text s → r ≡ s
one_regex text r s (p, w, m) (q, v, n) = one_meaning q r s (subst (λ x. MeansRegex x r) (one_pattern text p q w v) m) n

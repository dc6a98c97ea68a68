-- Ranges in ascending order that are joined where they touch are separate.
use Rattle.std.proofs.Common.{◌≡◌, ℕ, ◌+◌, ◌-◌, ◌≤◌, ◌<◌, inl, inr, max, Bool, true, false, ◌||◌, nat_lt, None, List, [], ◌∷◌, refl, sym, ◌∙◌, ap, arith}
use Rattle.std.proofs.Math.Bool.{or_assoc}
use Rattle.std.proofs.lemmas.Bool.{leb-true, le-leb, ltb-true, lt-ltb, leb-false, ltb-false, cases_lt, and_from, cond_both, false_from_ne_true, or_cases}
use Rattle.std.specs.List.Sorted.{IsPermutation}
use Rattle.std.proofs.lemmas.List.Sorted.{list_any-IsPermutation}
use Rattle.helix_base.specs.Ranges.{in_ranges}
use Rattle.helix_base.specs.Alphabet.{is_in_range}
use Rattle.helix_regex.specs.Meaning.{are_separate, AreRangesOf}
use Rattle.helix_regex.specs.Inner.Sets.{Ascending, touches, joined, joined_from}
use Rattle.helix_regex.proofs.OneRegex.{within, is_within}
use Rattle.helix_regex.proofs.RangeSets.{same_test}

abbrev Pairs : Type 0
Pairs = List (ℕ × ℕ)

empty_range : (c : ℕ) (r : ℕ × ℕ) → nat_lt r.1 r.0 ≡ true → is_in_range c r ≡ false
empty_range c r e = let h : r.1 < r.0 = ltb-true r.1 r.0 e in
    false_from_ne_true (is_in_range c r) (λ f. let (a, b) = within c r f in omega arith)

tail_up : (r : ℕ × ℕ) (rs : Pairs) → Ascending (r ∷ rs) → Ascending rs
tail_up r [] h = tt
tail_up r (s ∷ rs) h = h.1

skip_up : (x r : ℕ × ℕ) (rs : Pairs) → Ascending (x ∷ r ∷ rs) → Ascending (x ∷ rs)
skip_up x r [] h = tt
skip_up x r (s ∷ rs) h = (omega (arith, h.0, h.1.0), h.1.1)

same_first : (x y : ℕ × ℕ) (rs : Pairs) → y.0 ≡ x.0 → Ascending (x ∷ rs) → Ascending (y ∷ rs)
same_first x y [] e h = tt
same_first x y (s ∷ rs) e h = (omega (arith, h.0, e), h.1)

-- what is joined begins where the first range does
abbrev Starts : Pairs → ℕ → Type 0
Starts [] n = ⊥
Starts (r ∷ rs) n = (r.0 ≡ n) × (are_separate (r ∷ rs) ≡ true)

in_prefix : (x : ℕ × ℕ) (rs : Pairs) (n : ℕ) → x.0 ≤ x.1 → x.1 + 1 < n → Starts rs n → Starts (x ∷ rs) x.0
in_prefix x [] n o g h = absurd h
in_prefix x (r ∷ rs) n o g h =
    (refl, and_from _ _ (and_from _ _ (le-leb x.0 x.1 o) (lt-ltb (x.1 + 1) r.0 (omega (arith, h.0)))) h.1)

pub starts : (rs : Pairs) (x : ℕ × ℕ) → x.0 ≤ x.1 → Ascending (x ∷ rs) → Starts (joined x rs) x.0
starts [] x o h = (refl, le-leb x.0 x.1 o)
starts (r ∷ rs) x o h = cond_both (nat_lt r.1 r.0) _ _ (λ l. Starts l x.0) (λ e. starts rs x o (skip_up x r rs h)) (λ e.
    let good : r.0 ≤ r.1 = ltb-false r.1 r.0 e in
    cond_both (touches x r) _ _ (λ l. Starts l x.0)
    (λ f. starts rs (x.0, max x.1 r.1) (omega arith) (same_first x (x.0, max x.1 r.1) rs refl (skip_up x r rs h)))
    (λ f. let far : 1 < r.0 - x.1 = leb-false (r.0 - x.1) 1 f in
    in_prefix x (joined r rs) r.0 o (omega arith) (starts rs r good (tail_up x (r ∷ rs) h))))

or_right : (a b : Bool) → b ≡ true → (a || b) ≡ true
or_right true b e = refl
or_right false b e = e

-- touching ranges, joined
union : (c : ℕ) (x r : ℕ × ℕ) → x.0 ≤ r.0 → x.0 ≤ x.1 → r.0 ≤ r.1 → r.0 - x.1 ≤ 1
    → is_in_range c (x.0, max x.1 r.1) ≡ (is_in_range c x || is_in_range c r)
union c x r first o p near = same_test _ _
    (λ e. let (a, b) = within c (x.0, max x.1 r.1) e in elim (cases_lt x.1 c) [
      | inl above ↦ or_right (is_in_range c x) (is_in_range c r) (is_within c r (omega arith) (omega arith))
      | inr below ↦ ap (λ b. b || is_in_range c r) (is_within c x a below)
    ])
    (λ e. elim (or_cases (is_in_range c x) (is_in_range c r) e) [
      | inl f ↦ let (a, b) = within c x f in is_within c (x.0, max x.1 r.1) a (omega arith)
      | inr f ↦ let (a, b) = within c r f in is_within c (x.0, max x.1 r.1) (omega arith) (omega arith)
    ])

abbrev Has : ℕ → Pairs → Bool → Type 0
Has c l b = in_ranges l c ≡ b

pub has : (rs : Pairs) (x : ℕ × ℕ) (c : ℕ) → x.0 ≤ x.1 → Ascending (x ∷ rs)
    → in_ranges (joined x rs) c ≡ (is_in_range c x || in_ranges rs c)
has [] x c o h = refl
has (r ∷ rs) x c o h = cond_both (nat_lt r.1 r.0) _ _
    (λ l. Has c l (is_in_range c x || (is_in_range c r || in_ranges rs c)))
    (λ e. has rs x c o (skip_up x r rs h) ∙ ap (λ b. is_in_range c x
    || (b || in_ranges rs c)) (sym (empty_range c r e)))
    (λ e.
    let good : r.0 ≤ r.1 = ltb-false r.1 r.0 e in
    cond_both (touches x r) _ _ (λ l. Has c l (is_in_range c x || (is_in_range c r || in_ranges rs c)))
    (λ f. has rs (x.0, max x.1 r.1) c (omega arith) (same_first x (x.0, max x.1 r.1) rs refl (skip_up x r rs h))
    ∙ (ap (λ b. b || in_ranges rs c) (union c x r h.0 o good (leb-true (r.0 - x.1) 1 f))
    ∙ or_assoc (is_in_range c x) (is_in_range c r) (in_ranges rs c)))
    (λ f. ap (λ b. is_in_range c x || b) (has rs r c good (tail_up x (r ∷ rs) h))))

started : (l : Pairs) (n : ℕ) → Starts l n → are_separate l ≡ true
started [] n h = absurd h
started (r ∷ rs) n h = h.1

pub all_separate : (rs : Pairs) → Ascending rs → are_separate (joined_from None rs) ≡ true
all_separate [] h = refl
all_separate (r ∷ rs) h = cond_both (nat_lt r.1 r.0) _ _ (λ l. are_separate l ≡ true)
    (λ e. all_separate rs (tail_up r rs h))
    (λ e. started (joined r rs) r.0 (starts rs r (ltb-false r.1 r.0 e) h))

pub all_has : (rs : Pairs) (c : ℕ) → Ascending rs → in_ranges (joined_from None rs) c ≡ in_ranges rs c
all_has [] c h = refl
all_has (r ∷ rs) c h = cond_both (nat_lt r.1 r.0) _ _ (λ l. Has c l (is_in_range c r || in_ranges rs c))
    (λ e. all_has rs c (tail_up r rs h) ∙ ap (λ b. b || in_ranges rs c) (sym (empty_range c r e)))
    (λ e. has rs r c (ltb-false r.1 r.0 e) h)

pub are_ranges : (raw sorted ranges : Pairs) → IsPermutation raw sorted → Ascending sorted
    → ranges ≡ joined_from None sorted → AreRangesOf (λ c. in_ranges raw c) ranges
are_ranges raw sorted ranges p h e = record {
  separate = ap are_separate e ∙ all_separate sorted h;
  same = λ c. ap (λ l. in_ranges l c) e ∙ (all_has sorted c h
      ∙ sym (list_any-IsPermutation (is_in_range c) raw sorted p));
}

-- The characters between the ranges of a set.
use Rattle.std.proofs.Common.{◌≡◌, ℕ, ◌+◌, ◌-◌, ◌≤◌, ◌<◌, ◌⊎◌, inl, inr, min, Bool, true, false, ◌||◌, ◌&&◌, not, nat_le, nat_lt, get_or, drop-cons, add-one, [], ◌∷◌, length, drop, refl, sym, ◌∙◌, ap, subst, arith}
use Rattle.std.proofs.Math.Bool.{or-false}
use Rattle.std.proofs.lemmas.Bool.{leb-true, le-leb, ltb-true, lt-ltb, cases_lt, and_from, and_parts, false_from_ne_true}
use Rattle.std.proofs.lemmas.List.{drop_all}
use Rattle.helix_base.specs.Ranges.{in_ranges}
use Rattle.helix_base.specs.Alphabet.{is_in_range}
use Rattle.helix_regex.specs.Characters.{is_character}
use Rattle.helix_regex.specs.Meaning.{are_separate}
use Rattle.helix_regex.specs.Inner.Sets.{Gains, GainsAllBut}
use Rattle.helix_regex.proofs.OneRegex.{ordered, gap, tail, within, is_within, above}
use Rattle.helix_regex.proofs.RangeSets.{Pairs, same_test, gains_same, highest}

-- the ranges that are left begin no earlier than a code
abbrev pub BeginFrom : ℕ → Pairs → Type 0
BeginFrom n [] = Unit {0}
BeginFrom n (r ∷ rs) = n ≤ r.0

-- what is still to be gained: characters from a code on that are in none of the ranges left
abbrev pub left : ℕ → Pairs → ℕ → Bool
left n rs c = is_character c && (nat_le n c && not (in_ranges rs c))

pub record GapsLeft (n : ℕ) (rs all old new : Pairs) : Type 0 where
  pub separate : are_separate rs ≡ true
  pub begin : BeginFrom n rs
  pub same : (c : ℕ) → (in_ranges new c || left n rs c) ≡ (in_ranges old c || (is_character c && not (in_ranges all c)))

no_gain : (a b : Bool) → b ≡ false → (a || b) ≡ a
no_gain a b e = ap (λ x. a || x) e ∙ or-false a

outside_low : (c : ℕ) (r : ℕ × ℕ) → c < r.0 → is_in_range c r ≡ false
outside_low c r lt = false_from_ne_true (is_in_range c r) (λ e. let (a, b) = within c r e in omega arith)

outside_high : (c : ℕ) (r : ℕ × ℕ) → r.1 < c → is_in_range c r ≡ false
outside_high c r lt = false_from_ne_true (is_in_range c r) (λ e. let (a, b) = within c r e in omega arith)

not_below : (n c : ℕ) → c < n → nat_le n c ≡ false
not_below n c lt = false_from_ne_true (nat_le n c) (λ e. let h : n ≤ c = leb-true n c e in omega arith)

none_listed : (r : ℕ × ℕ) (rs : Pairs) (c : ℕ) → are_separate (r ∷ rs) ≡ true → c ≤ r.1 → in_ranges rs c ≡ false
none_listed r rs c h le = false_from_ne_true (in_ranges rs c) (λ e. let a : r.1 + 1 < c = above r rs c h e in
    omega arith)

-- what is left from a code on, at a range and after it
abbrev Step : ℕ → ℕ → ℕ × ℕ → Pairs → ℕ → Bool → Type 0
Step n m r rs c pushed = (pushed || (nat_le m c && not (in_ranges rs c)))
    ≡ (nat_le n c && not (is_in_range c r || in_ranges rs c))

gap_step : (n m : ℕ) (r : ℕ × ℕ) (rs : Pairs) (c : ℕ) (pushed : Bool) → are_separate (r ∷ rs) ≡ true → n ≤ r.0
    → (m ≤ c → r.1 < c) → (r.1 < c → m ≤ c) → ((n ≤ c) × (c < r.0) → pushed ≡ true)
    → ((c < n) ⊎ (r.0 ≤ c) → pushed ≡ false) → Step n m r rs c pushed
gap_step n m r rs c pushed h begin low high yes_pushed no_pushed =
    let o : r.0 ≤ r.1 = ordered r rs h in
    elim (cases_lt c n) [
      | inl below ↦ ap (λ b. b || (nat_le m c && not (in_ranges rs c))) (no_pushed (inl below))
          ∙ (ap (λ b. b && not (in_ranges rs c)) (false_from_ne_true (nat_le m c) (λ e. let f : r.1
          < c = low (leb-true m c e) in omega arith))
          ∙ sym (ap (λ b. b && not (is_in_range c r || in_ranges rs c)) (not_below n c below)))
      | inr from ↦ (elim (cases_lt c r.0) [
        | inl before ↦ ap (λ b. b || (nat_le m c && not (in_ranges rs c))) (yes_pushed (from, before))
            ∙ sym (ap (λ b. b && not (is_in_range c r || in_ranges rs c)) (le-leb n c from)
            ∙ (ap (λ b. not (b || in_ranges rs c)) (outside_low c r before)
            ∙ ap not (none_listed r rs c h (omega arith))))
        | inr reached ↦ (elim (cases_lt r.1 c) [
          | inl after ↦ ap (λ b. b || (nat_le m c && not (in_ranges rs c))) (no_pushed (inr reached))
              ∙ (ap (λ b. b && not (in_ranges rs c)) (le-leb m c (high after))
              ∙ sym (ap (λ b. b && not (is_in_range c r || in_ranges rs c)) (le-leb n c from)
              ∙ ap (λ b. not (b || in_ranges rs c)) (outside_high c r after)))
          | inr inside ↦ ap (λ b. b || (nat_le m c && not (in_ranges rs c))) (no_pushed (inr reached))
              ∙ (ap (λ b. b && not (in_ranges rs c)) (false_from_ne_true (nat_le m c) (λ e. let f : r.1
              < c = low (leb-true m c e) in omega arith))
              ∙ sym (ap (λ b. b && not (is_in_range c r || in_ranges rs c)) (le-leb n c from)
              ∙ ap (λ b. not (b || in_ranges rs c)) (is_within c r reached inside)))
        ])
      ])
    ]

spread : (a x p q : Bool) → ((a || (x && p)) || (x && q)) ≡ (a || (x && (p || q)))
spread true x p q = refl
spread false true p q = refl
spread false false p q = refl

on_characters : (x p q : Bool) → (x ≡ true → p ≡ q) → (x && p) ≡ (x && q)
on_characters true p q f = f refl
on_characters false p q f = refl

and-false : (x : Bool) → (x && false) ≡ false
and-false true = refl
and-false false = refl

empty_gap : (n top c : ℕ) → top ≤ n → (c < n) ⊎ (top ≤ c)
empty_gap n top c le = elim (cases_lt c n) [ inl lt ↦ inl lt | inr from ↦ inr (omega arith) ]

from_zero : (rs : Pairs) → BeginFrom 0 rs
from_zero [] = tt
from_zero (r ∷ rs) = omega arith

-- one range passed, with the characters before it gained
step_same : (n m : ℕ) (r : ℕ × ℕ) (rs all old new next : Pairs) (pushed : ℕ → Bool) → GapsLeft n (r ∷ rs) all old new
    → Gains (λ c. is_character c && pushed c) new next
    → ((c : ℕ) → is_character c ≡ true → Step n m r rs c (pushed c)) → BeginFrom m rs → GapsLeft m rs all old next
step_same n m r rs all old new next pushed h g step begin = record {
  separate = tail r rs h.separate;
  begin = begin;
  same = λ c. ap (λ b. b || left m rs c) (g.all c)
      ∙ (spread (in_ranges new c) (is_character c) (pushed c) (nat_le m c && not (in_ranges rs c))
      ∙ (ap (λ b. in_ranges new c || b) (on_characters (is_character c) _ _ (step c)) ∙ h.same c));
}

begins : (m : ℕ) (r : ℕ × ℕ) (rs : Pairs) → are_separate (r ∷ rs) ≡ true → m ≤ r.1 + 1 → BeginFrom m rs
begins m r [] h le = tt
begins m r (s ∷ rs) h le = let g : r.1 + 1 < s.0 = gap r s rs h in omega arith

abbrev pub gap_has : ℕ → ℕ → ℕ → Bool
gap_has n top c = nat_le n c && nat_lt c top

gap_yes : (n top c : ℕ) → n ≤ c → c < top → gap_has n top c ≡ true
gap_yes n top c a b = and_from (nat_le n c) (nat_lt c top) (le-leb n c a) (lt-ltb c top b)

gap_no : (n top c : ℕ) → (c < n) ⊎ (top ≤ c) → gap_has n top c ≡ false
gap_no n top c (inl low) = false_from_ne_true (gap_has n top c) (λ e. let h : n
    ≤ c = leb-true n c (and_parts (nat_le n c) (nat_lt c top) e).0 in omega arith)
gap_no n top c (inr high) = false_from_ne_true (gap_has n top c) (λ e. let h : c
    < top = ltb-true c top (and_parts (nat_le n c) (nat_lt c top) e).1 in omega arith)

gap_range : (n top c : ℕ) → n < top → is_in_range c (n, top - 1) ≡ gap_has n top c
gap_range n top c lt = same_test _ _
    (λ e. let (a, b) = within c (n, top - 1) e in gap_yes n top c a (omega arith))
    (λ e. let (a, b) = and_parts (nat_le n c) (nat_lt c top) e in let h : c < top = ltb-true c top b in
    is_within c (n, top - 1) (leb-true n c a) (omega arith))

pub gap_some : (n top : ℕ) (old new : Pairs) → n < top
    → Gains (λ c. is_character c && is_in_range c (n, top - 1)) old new
    → Gains (λ c. is_character c && (nat_le n c && nat_lt c top)) old new
gap_some n top old new lt h = gains_same (λ c. is_character c && is_in_range c (n, top - 1))
    (λ c. is_character c && gap_has n top c) old new (λ c. ap (λ b. is_character c && b) (gap_range n top c lt)) h

pub gap_none : (n top : ℕ) (old : Pairs) → top ≤ n → Gains (λ c. is_character c && (nat_le n c && nat_lt c top)) old old
gap_none n top old le =
    record {
      all =
          λ c. sym (no_gain (in_ranges old c) (is_character c && gap_has n top c)
          (ap (λ b. is_character c && b) (gap_no n top c (empty_gap n top c le)) ∙ and-false (is_character c)));
    }

pub gaps_next : (n m limit i : ℕ) (d : ℕ × ℕ) (all old new next : Pairs) → i < length all
    → m ≡ min ((get_or all i d).1 + 1) limit → 0x10FFFF < limit → GapsLeft n (drop i all) all old new
    → Gains (λ c. is_character c && (nat_le n c && nat_lt c (get_or all i d).0)) new next
    → GapsLeft m (drop (i + 1) all) all old next
gaps_next n m limit i d all old new next lt e big h g =
    let r : ℕ × ℕ = get_or all i d in
    let rs : Pairs = drop (i + 1) all in
    let cut : drop i all ≡ r ∷ rs = drop-cons all i d lt ∙ ap (λ k. r ∷ drop k all) (sym (add-one i)) in
    let k : GapsLeft n (r ∷ rs) all old new = subst (λ l. GapsLeft n l all old new) cut h in
    step_same n m r rs all old new next (gap_has n r.0) k g
    (λ c is. let top : c ≤ 0x10FFFF = highest c is in
    gap_step n m r rs c (gap_has n r.0 c) k.separate k.begin (λ f. omega arith) (λ f. omega arith)
    (λ f. gap_yes n r.0 c f.0 f.1) (λ f. gap_no n r.0 c f))
    (begins m r rs k.separate (omega arith))

pub gaps_start : (all old : Pairs) → are_separate all ≡ true → GapsLeft 0 all all old old
gaps_start all old h = record {
  separate = h;
  begin = from_zero all;
  same = λ c. ap (λ b. in_ranges old c || (is_character c && (b && not (in_ranges all c)))) (le-leb 0 c (omega arith));
}

to_end : (c n : ℕ) → c ≤ 0x10FFFF → (nat_le n c && nat_lt c 0x110000) ≡ (nat_le n c && not false)
to_end c n le = ap (λ b. nat_le n c && b) (lt-ltb c 0x110000 (omega arith))

pub gaps_end : (n i : ℕ) (all old new next : Pairs) → length all ≤ i → GapsLeft n (drop i all) all old new
    → Gains (λ c. is_character c && (nat_le n c && nat_lt c 0x110000)) new next → GainsAllBut all old next
gaps_end n i all old new next le h g =
    let k : GapsLeft n [] all old new = subst (λ l. GapsLeft n l all old new) (drop_all i all le) h in
    record {
      all =
          λ c. g.all c ∙ (ap (λ b. in_ranges new c
          || b) (on_characters (is_character c) (nat_le n c && nat_lt c 0x110000) (nat_le n c && not false)
          (λ is. to_end c n (highest c is))) ∙ k.same c);
    }

-- An expression matches a word or doesn't: lemmas for this crate and those above.
use Rattle.std.proofs.Common.{◌≡◌, ℕ, zero, suc, ◌+◌, ◌≤◌, ◌⊎◌, inl, inr, ⊎_elim, Option, None, Some, Bool, true, false, IsTrue, List, [], ◌∷◌, ◌++◌, length, refl, sym, ap, ◌∙◌, subst, arith, length-append}
use Rattle.std.proofs.Math.Decide.{dec_le}
use Rattle.std.proofs.lemmas.Bool.{cases_lt}
use Rattle.helix_base.specs.Ranges.{in_ranges}
use Rattle.helix_expr.specs.Matching.{IsOneOf, Joined, UpTo, Repeats, Matches, MatchesInOrder, MatchesSome, ContainsMatch}
use Rattle.helix_expr.specs.declared.expr.Expr.{Expr, Empty, Chars, Seq', Alt', Repeat', Row_of-Expr, end_of-Expr, more_of-Expr}
use Rattle.helix_expr.specs.declared.regex.Regex.{Regex}
use Rattle.helix_tree.specs.DecisionLaws.{dec_like, dec_true, dec_both, dec_either, dec_below}

-- the word splits into words of two languages
abbrev Splits : (List ℕ → Type 0) → (List ℕ → Type 0) → List ℕ → Type 0
Splits A B word = (prefix : List ℕ) × (rest : List ℕ) × (word ≡ prefix ++ rest) × A prefix × B rest

-- one character less in the first part
abbrev After : ℕ → (List ℕ → Type 0) → List ℕ → Type 0
After code A word = A (code ∷ word)

empty_parts : (A B : List ℕ → Type 0) → Splits A B [] → A [] × B []
empty_parts A B ([], rest, split, a, b) = (a, subst B (sym split) b)
empty_parts A B (code ∷ prefix, rest, split, a, b) = absurd (cc split)

first_part : (A B : List ℕ → Type 0) (code : ℕ) (word : List ℕ) → Splits A B (code ∷ word)
    → (A [] × B (code ∷ word)) ⊎ Splits (After code A) B word
first_part A B code word ([], rest, split, a, b) = inl (a, subst B (sym split) b)
first_part A B code word (other ∷ prefix, rest, split, a, b) =
    let same : other ≡ code = cc split in
    let tail : word ≡ prefix ++ rest = cc split in
    inr (prefix, rest, tail, subst (λ c. A (c ∷ prefix)) same a, b)

with_first : (A B : List ℕ → Type 0) (code : ℕ) (word : List ℕ)
    → (A [] × B (code ∷ word)) ⊎ Splits (After code A) B word → Splits A B (code ∷ word)
with_first A B code word (inl both) = ([], code ∷ word, refl, both.0, both.1)
with_first A B code word (inr (prefix, rest, split, a, b)) =
    (code ∷ prefix, rest, ap (λ w. code ∷ w) split, a, b)

dec_splits : (A B : List ℕ → Type 0) → ((w : List ℕ) → Dec (A w)) → ((w : List ℕ) → Dec (B w)) → (word : List ℕ)
    → Dec (Splits A B word)
dec_splits A B dec_a dec_b [] =
    dec_like (λ both. ([], [], refl, both.0, both.1)) (empty_parts A B) (dec_both (dec_a []) (dec_b []))
dec_splits A B dec_a dec_b (code ∷ word) = dec_like (with_first A B code word) (first_part A B code word)
    (dec_either (dec_both (dec_a []) (dec_b (code ∷ word)))
    (dec_splits (After code A) B (λ w. dec_a (code ∷ w)) dec_b word))

dec_empty : (word : List ℕ) → Dec (word ≡ [])
dec_empty [] = yes refl
dec_empty (code ∷ word) = no (λ e. cc e)

dec_up_to : (most : Option ℕ) (count : ℕ) → Dec (UpTo most count)
dec_up_to None count = yes tt
dec_up_to (Some limit) count = dec_le count limit

lower_up_to : (most : Option ℕ) (count fewer : ℕ) → fewer ≤ count → UpTo most count → UpTo most fewer
lower_up_to None count fewer below high = tt
lower_up_to (Some limit) count fewer below high = omega arith

-- repeated words: those of which more are joined than the word has characters can do without an empty one
module _ (L : List ℕ → Type 0) where
  one_fewer : (count : ℕ) (word : List ℕ) → length word ≤ count → Joined L (suc count) word → Joined L count word
  one_fewer zero [] short joined = refl
  one_fewer zero (code ∷ word) short joined = absurd (omega (arith, short))
  one_fewer (suc count) word short ([], rest, split, first, joined) = subst (Joined L (suc count)) (sym split) joined
  one_fewer (suc count) word short (code ∷ prefix, rest, split, first, joined) =
      let less : length rest ≤ count = omega (arith, short, ap length split, length-append (code ∷ prefix) rest) in
      (code ∷ prefix, rest, split, first, one_fewer count rest less joined)

  -- few words that are joined, but as many as are asked for
  abbrev Few : ℕ → ℕ → List ℕ → Type 0
  Few least count word = (few : ℕ) × (few ≤ least + length word) × (least ≤ few) × (few ≤ count) × Joined L few word

  few_of : (least count : ℕ) (word : List ℕ) → least ≤ count → Joined L count word → Few least count word
  few_of least zero word low joined = (zero, omega arith, low, omega arith, joined)
  few_of least (suc count) word low joined = ⊎_elim
      (λ above. let found : Few least count word =
      few_of least count word (omega arith) (one_fewer count word (omega arith) joined) in
      (found.0, found.1, found.2, omega (arith, found.3), found.4))
      (λ within. (suc count, within, low, omega arith, joined))
      (cases_lt (least + length word) (suc count))

  module _ (dec_l : (w : List ℕ) → Dec (L w)) where
    dec_joined : (count : ℕ) (word : List ℕ) → Dec (Joined L count word)
    dec_joined zero word = dec_empty word
    dec_joined (suc count) word = dec_splits L (Joined L count) dec_l (λ w. dec_joined count w) word

    dec_repeats : (least : ℕ) (most : Option ℕ) (word : List ℕ) → Dec (Repeats L least most word)
    dec_repeats least most word = dec_like
        (λ found. (found.0, found.2.0, found.2.1.0, found.2.1.1))
        (λ (count, low, high, joined).
        let few : Few least count word = few_of least count word low joined in
        (few.0, omega (arith, few.1), (few.2, (lower_up_to most count few.0 few.3 high, few.4))))
        (dec_below (λ count. (least ≤ count) × (UpTo most count × Joined L count word))
        (λ count. dec_both (dec_le least count) (dec_both (dec_up_to most count) (dec_joined count word)))
        (least + length word + 1))

dec_one_of : (ranges : List (ℕ × ℕ)) (word : List ℕ) → Dec (IsOneOf ranges word)
dec_one_of ranges [] = no (λ none. none)
dec_one_of ranges (code ∷ []) = dec_true (in_ranges ranges code)
dec_one_of ranges (first ∷ second ∷ word) = no (λ none. none)

mutual
  pub dec_matches : (expr : Expr) (word : List ℕ) → Dec (Matches expr word)
  dec_matches Empty word = dec_empty word
  dec_matches (Chars ranges) word = dec_one_of ranges word
  dec_matches (Seq' shape parts) word = dec_in_order parts word
  dec_matches (Alt' shape parts) word = dec_some parts word
  dec_matches (Repeat' pointer part least most) word =
      dec_repeats (λ w. MatchesSome part w) (λ w. dec_some part w) least most word

  dec_in_order : {m : _} (parts : Row_of-Expr m) (word : List ℕ) → Dec (MatchesInOrder parts word)
  dec_in_order end_of-Expr word = dec_empty word
  dec_in_order (more_of-Expr part parts) word =
      dec_splits (λ w. Matches part w) (λ w. MatchesInOrder parts w) (λ w. dec_matches part w)
      (λ w. dec_in_order parts w) word

  dec_some : {m : _} (parts : Row_of-Expr m) (word : List ℕ) → Dec (MatchesSome parts word)
  dec_some end_of-Expr word = no (λ none. none)
  dec_some (more_of-Expr part parts) word = dec_either (dec_matches part word) (dec_some parts word)

-- nothing is before or after a match, where an anchor says so
abbrev Anchored : Bool → List ℕ → Type 0
Anchored anchor word = IsTrue anchor → word ≡ []

dec_anchored : (anchor : Bool) (word : List ℕ) → Dec (Anchored anchor word)
dec_anchored true word = dec_like (λ empty t. empty) (λ all. all refl) (dec_empty word)
dec_anchored false word = yes (λ t. absurd (cc t))

pub dec_contains : (regex : Regex) (word : List ℕ) → Dec (ContainsMatch regex word)
dec_contains regex word = dec_like
    (λ (before, others, split, start, (middle, after, rest, match, end)). record {
      before = before;
      middle = middle;
      after = after;
      split = split ∙ ap (λ l. before ++ l) rest;
      match = match;
      from_start = start;
      to_end = end;
    })
    (λ (found : ContainsMatch regex word). (
      found.before,
      found.middle ++ found.after,
      found.split,
      found.from_start,
      (found.middle, found.after, refl, found.match, found.to_end),
    ))
    (dec_splits (Anchored regex.at_start) (Splits (λ w. Matches regex.expr w) (Anchored regex.at_end))
    (λ w. dec_anchored regex.at_start w)
    (λ w. dec_splits (λ v. Matches regex.expr v) (Anchored regex.at_end) (λ v. dec_matches regex.expr v)
    (λ v. dec_anchored regex.at_end v) w) word)

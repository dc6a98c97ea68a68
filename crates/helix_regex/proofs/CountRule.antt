-- Bad counts are found on a pattern's tokens as on the pattern.
use Rattle.std.proofs.Common.{◌≡◌, ℕ, ◌+◌, inl, inr, min, Bool, true, false, ◌||◌, nat_lt, List, ◌++◌, length, refl, sym, ◌∙◌, ap, arith}
use Rattle.std.proofs.lemmas.Bool.{cases_lt, lt-ltb, le-ltb}
use Rattle.helix_regex.specs.declared.token.Token.{Token}
use Rattle.helix_regex.specs.Pattern.{star, plus, question, exactly, at_least, between, Quant, once, times, Pattern, end, bar, caret, dollar, one, group, single_text, opening}
use Rattle.helix_regex.specs.Meaning.{number_of}
use Rattle.helix_regex.specs.Faults.{offset_if, piece_text, group_text, is_bad_count, bad_counts, first_of}
use Rattle.helix_regex.specs.Inner.Tokens.{single_tokens, capped, quant_tokens, tokens}
use Rattle.helix_regex.specs.Inner.Rules.{or_else, some_if, first_some, miscounted_at}
use Rattle.helix_regex.proofs.Quiet.{inner_single, first_quiet, quiet_count}
use Rattle.helix_regex.proofs.Choosing.{first_of-append, first_some-append, first_if}

-- counts
capped_above : (x : ℕ) → nat_lt 1000 (min x 1001) ≡ nat_lt 1000 x
capped_above x = elim (cases_lt 1000 x) [
  | inl lt ↦ lt-ltb 1000 (min x 1001) (omega arith) ∙ sym (lt-ltb 1000 x lt)
  | inr le ↦ le-ltb 1000 (min x 1001) (omega arith) ∙ sym (le-ltb 1000 x le)
]

pub low : (x : ℕ) → nat_lt 1000 x ≡ false → min x 1001 ≡ x
low x e = elim (cases_lt 1000 x) [
  | inl lt ↦ let f : nat_lt 1000 x ≡ true = lt-ltb 1000 x lt in cc
  | inr le ↦ omega arith
]

both_capped : (x y : ℕ) (a b : Bool) → nat_lt 1000 x ≡ a → nat_lt 1000 y ≡ b
    → (a || (b || nat_lt (min y 1001) (min x 1001))) ≡ ((a || b) || nat_lt y x)
both_capped x y true b e f = refl
both_capped x y false true e f = refl
both_capped x y false false e f = ap (λ n. nat_lt n (min x 1001)) (low y f) ∙ ap (nat_lt y) (low x e)

bad_between : (x y : ℕ) → (nat_lt 1000 (min x 1001) || (nat_lt 1000 (min y 1001) || nat_lt (min y 1001) (min x 1001)))
    ≡ ((nat_lt 1000 x || nat_lt 1000 y) || nat_lt y x)
bad_between x y = ap (λ a. a || (nat_lt 1000 (min y 1001) || nat_lt (min y 1001) (min x 1001))) (capped_above x)
    ∙ (ap (λ b. nat_lt 1000 x || (b || nat_lt (min y 1001) (min x 1001))) (capped_above y)
    ∙ both_capped x y (nat_lt 1000 x) (nat_lt 1000 y) refl refl)

twice : (a b : Bool) → b ≡ false → (a || (a || b)) ≡ a
twice true b e = refl
twice false b e = e

or-false : (a : Bool) → (a || false) ≡ a
or-false true = refl
or-false false = refl

bad_exactly : (x : ℕ) → (nat_lt 1000 (min x 1001) || (nat_lt 1000 (min x 1001) || nat_lt (min x 1001) (min x 1001)))
    ≡ nat_lt 1000 x
bad_exactly x = twice (nat_lt 1000 (min x 1001)) (nat_lt (min x 1001) (min x 1001))
    (le-ltb (min x 1001) (min x 1001) (omega arith)) ∙ capped_above x

bad_quant : (q : Quant) (at : ℕ) (r : List Token)
    → first_some miscounted_at (quant_tokens at q ++ r)
    ≡ or_else (some_if (is_bad_count q) at) (first_some miscounted_at r)
bad_quant once at r = refl
bad_quant (times star lazy) at r = refl
bad_quant (times plus lazy) at r = refl
bad_quant (times question lazy) at r = refl
bad_quant (times (exactly ds) lazy) at r =
    ap (λ b. or_else (some_if b at) (first_some miscounted_at r)) (bad_exactly (number_of ds))
bad_quant (times (at_least ds) lazy) at r =
    ap (λ b. or_else (some_if b at) (first_some miscounted_at r)) (or-false (nat_lt 1000 (capped ds))
    ∙ capped_above (number_of ds))
bad_quant (times (between ds es) lazy) at r =
    ap (λ b. or_else (some_if b at) (first_some miscounted_at r)) (bad_between (number_of ds) (number_of es))

pub counts_rule : (p : Pattern) (at : ℕ) → first_some miscounted_at (tokens at p) ≡ first_of (bad_counts at p)
counts_rule end at = refl
counts_rule (bar p) at = counts_rule p (at + 1)
counts_rule (caret p) at = counts_rule p (at + 1)
counts_rule (dollar p) at = counts_rule p (at + 1)
counts_rule (one s q p) at = first_quiet miscounted_at quiet_count (single_tokens at s) _ (inner_single s at)
    ∙ (bad_quant q (at + length (single_text s)) (tokens (at + length (piece_text s q)) p)
    ∙ (ap (or_else (some_if (is_bad_count q) (at + length (single_text s))))
    (counts_rule p (at + length (piece_text s q)))
    ∙ sym (first_if (is_bad_count q) (at + length (single_text s)) (bad_counts (at + length (piece_text s q)) p))))
counts_rule (group bare inner q p) at =
    let n : ℕ = at + length (group_text bare inner once) in
    first_some-append miscounted_at (tokens (at + length (opening bare)) inner) _
    ∙ (ap (or_else (first_some miscounted_at (tokens (at + length (opening bare)) inner)))
    (bad_quant q n (tokens (at + length (group_text bare inner q)) p)
    ∙ (ap (or_else (some_if (is_bad_count q) n)) (counts_rule p (at + length (group_text bare inner q)))
    ∙ sym (first_if (is_bad_count q) n (bad_counts (at + length (group_text bare inner q)) p))))
    ∙ (ap (λ x. or_else x (first_of (offset_if (is_bad_count q) n
    ++ bad_counts (at + length (group_text bare inner q)) p))) (counts_rule inner (at + length (opening bare)))
    ∙ sym (first_of-append (bad_counts (at + length (opening bare)) inner)
    (offset_if (is_bad_count q) n ++ bad_counts (at + length (group_text bare inner q)) p))))

-- Bars outside of groups are found on a pattern's tokens as on the pattern.
use Rattle.std.proofs.Common.{◌≡◌, ℕ, suc, ◌+◌, ◌-◌, ◌≤◌, min, ◌==◌, Option, Some, None, List, ◌∷◌, ◌++◌, length, refl, sym, ◌∙◌, ap, subst, append_assoc, arith, MatchOption}
use Rattle.std.proofs.lemmas.Bool.{ne_eqb}
use Rattle.helix_regex.specs.declared.token.Token.{Token}
use Rattle.helix_regex.specs.declared.token.Token.TheVariants as token
use Rattle.helix_regex.specs.Pattern.{star, plus, question, exactly, at_least, between, Quant, once, times, Pattern, end, bar, caret, dollar, one, group, single_text, opening}
use Rattle.helix_regex.specs.Faults.{piece_text, group_text, outer_bars, first_of, lesser, least_of}
use Rattle.helix_regex.specs.Inner.Tokens.{single_tokens, quant_tokens, tokens}
use Rattle.helix_regex.specs.Inner.Rules.{or_else, some_if, outer_bar}
use Rattle.helix_regex.proofs.Quiet.{inner_single, outer_quiet}

-- bars outside of groups
outer_quant : (d : ℕ) (q : Quant) (at : ℕ) (r : List Token) → outer_bar d (quant_tokens at q ++ r) ≡ outer_bar d r
outer_quant d once at r = refl
outer_quant d (times star lazy) at r = refl
outer_quant d (times plus lazy) at r = refl
outer_quant d (times question lazy) at r = refl
outer_quant d (times (exactly ds) lazy) at r = refl
outer_quant d (times (at_least ds) lazy) at r = refl
outer_quant d (times (between ds es) lazy) at r = refl

pub closed : (d : ℕ) (ts : List Token) → outer_bar (suc d - 1) ts ≡ outer_bar d ts
closed d ts = let e : suc d - 1 ≡ d = omega arith in ap (λ n. outer_bar n ts) e

regroup : (d : ℕ) (a b c : List Token) → outer_bar d ((a ++ b) ++ c) ≡ outer_bar d (a ++ (b ++ c))
regroup d a b c = ap (outer_bar d) (append_assoc a b c)

inside_bar : (d at : ℕ) (x : Option ℕ) → or_else (some_if (suc d == 0) at) x ≡ x
inside_bar d at x = ap (λ b. or_else (some_if b at) x) (ne_eqb (suc d) 0 (λ e. omega arith))

inside : (p : Pattern) (at d : ℕ) (r : List Token) → outer_bar (suc d) (tokens at p ++ r) ≡ outer_bar (suc d) r
inside end at d r = refl
inside (bar p) at d r = inside_bar d at (outer_bar (suc d) (tokens (at + 1) p ++ r)) ∙ inside p (at + 1) d r
inside (caret p) at d r = inside p (at + 1) d r
inside (dollar p) at d r = inside p (at + 1) d r
inside (one s q p) at d r = regroup (suc d) (single_tokens at s)
    (quant_tokens (at + length (single_text s)) q ++ tokens (at + length (piece_text s q)) p) r
    ∙ (outer_quiet (suc d) (single_tokens at s) _ (inner_single s at)
    ∙ (regroup (suc d) (quant_tokens (at + length (single_text s)) q) (tokens (at + length (piece_text s q)) p) r
    ∙ (outer_quant (suc d) q (at + length (single_text s)) (tokens (at + length (piece_text s q)) p ++ r)
    ∙ inside p (at + length (piece_text s q)) d r)))
inside (group bare inner q p) at d r =
    let n : ℕ = at + length (group_text bare inner once) in
    let rest : List Token = tokens (at + length (group_text bare inner q)) p in
    regroup (suc (suc d)) (tokens (at + length (opening bare)) inner) (token.Close ∷ (quant_tokens n q ++ rest)) r
    ∙ (inside inner (at + length (opening bare)) (suc d) (token.Close ∷ ((quant_tokens n q ++ rest) ++ r))
    ∙ (closed (suc d) ((quant_tokens n q ++ rest) ++ r) ∙ (regroup (suc d) (quant_tokens n q) rest r
    ∙ (outer_quant (suc d) q n (rest ++ r) ∙ inside p (at + length (group_text bare inner q)) d r))))

pub bars_rule : (p : Pattern) (at : ℕ) → outer_bar 0 (tokens at p) ≡ first_of (outer_bars at p)
bars_rule end at = refl
bars_rule (bar p) at = refl
bars_rule (caret p) at = bars_rule p (at + 1)
bars_rule (dollar p) at = bars_rule p (at + 1)
bars_rule (one s q p) at = outer_quiet 0 (single_tokens at s) _ (inner_single s at)
    ∙ (outer_quant 0 q (at + length (single_text s)) (tokens (at + length (piece_text s q)) p)
    ∙ bars_rule p (at + length (piece_text s q)))
bars_rule (group bare inner q p) at = inside inner (at + length (opening bare)) 0 _
    ∙ (closed 0 (quant_tokens (at + length (group_text bare inner once)) q
    ++ tokens (at + length (group_text bare inner q)) p)
    ∙ (outer_quant 0 q (at + length (group_text bare inner once)) (tokens (at + length (group_text bare inner q)) p)
    ∙ bars_rule p (at + length (group_text bare inner q))))

-- the first such bar is the least
from_later : (at n : ℕ) (o : Option ℕ) → MatchOption o (Unit {0}) (λ m. at + n ≤ m)
    → MatchOption o (Unit {0}) (λ m. at ≤ m)
from_later at n None h = tt
from_later at n (Some m) h = omega arith

reaches : (at : ℕ) → at ≤ at
reaches at = omega arith

stays : (at : ℕ) (o : Option ℕ) → MatchOption o (Unit {0}) (λ m. at + 1 ≤ m) → lesser (Some at) o ≡ Some at
stays at None h = refl
stays at (Some m) h = let e : min at m ≡ at = omega arith in ap (λ n. Some n) e

lowest_step : (at : ℕ) (o : Option ℕ) → MatchOption o (Unit {0}) (λ m. at + 1 ≤ m)
    → MatchOption (lesser (Some at) o) (Unit {0}) (λ m. at ≤ m)
lowest_step at o h = subst (λ x. MatchOption x (Unit {0}) (λ m. at ≤ m)) (sym (stays at o h)) (reaches at)

lowest : (p : Pattern) (at : ℕ) → MatchOption (least_of (outer_bars at p)) (Unit {0}) (λ m. at ≤ m)
lowest end at = tt
lowest (bar p) at = lowest_step at (least_of (outer_bars (at + 1) p)) (lowest p (at + 1))
lowest (caret p) at = from_later at 1 (least_of (outer_bars (at + 1) p)) (lowest p (at + 1))
lowest (dollar p) at = from_later at 1 (least_of (outer_bars (at + 1) p)) (lowest p (at + 1))
lowest (one s q p) at = from_later at (length (piece_text s q)) (least_of (outer_bars (at + length (piece_text s q)) p))
    (lowest p (at + length (piece_text s q)))
lowest (group bare inner q p) at = from_later at (length (group_text bare inner q))
    (least_of (outer_bars (at + length (group_text bare inner q)) p)) (lowest p (at + length (group_text bare inner q)))

pub first_least : (p : Pattern) (at : ℕ) → first_of (outer_bars at p) ≡ least_of (outer_bars at p)
first_least end at = refl
first_least (bar p) at = sym (stays at (least_of (outer_bars (at + 1) p)) (lowest p (at + 1)))
first_least (caret p) at = first_least p (at + 1)
first_least (dollar p) at = first_least p (at + 1)
first_least (one s q p) at = first_least p (at + length (piece_text s q))
first_least (group bare inner q p) at = first_least p (at + length (group_text bare inner q))

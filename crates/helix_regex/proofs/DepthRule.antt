-- Groups are as deep on a pattern's tokens as in the pattern.
use Rattle.std.proofs.Common.{◌≡◌, ℕ, suc, ◌+◌, ◌-◌, ◌≤◌, max, List, ◌∷◌, ◌++◌, length, refl, ◌∙◌, ap, append_assoc, arith}
use Rattle.helix_regex.specs.declared.token.Token.{Token}
use Rattle.helix_regex.specs.declared.token.Token.TheVariants as token
use Rattle.helix_regex.specs.Pattern.{star, plus, question, exactly, at_least, between, Quant, once, times, Pattern, end, bar, caret, dollar, one, group, single_text, opening}
use Rattle.helix_regex.specs.Faults.{piece_text, group_text, depth}
use Rattle.helix_regex.specs.Inner.Tokens.{single_tokens, quant_tokens, tokens}
use Rattle.helix_regex.specs.Inner.Rules.{deepest}
use Rattle.helix_regex.proofs.Deep.{least}
use Rattle.helix_regex.proofs.Quiet.{inner_single, deepest_quiet}

-- groups
kept : (d : ℕ) (r : List Token) → max d (deepest d r) ≡ deepest d r
kept d r = let h : d ≤ deepest d r = least d r in omega arith

deepest_quant : (d : ℕ) (q : Quant) (at : ℕ) (r : List Token) → deepest d (quant_tokens at q ++ r) ≡ deepest d r
deepest_quant d once at r = refl
deepest_quant d (times star lazy) at r = kept d r
deepest_quant d (times plus lazy) at r = kept d r
deepest_quant d (times question lazy) at r = kept d r
deepest_quant d (times (exactly ds) lazy) at r = kept d r
deepest_quant d (times (at_least ds) lazy) at r = kept d r
deepest_quant d (times (between ds es) lazy) at r = kept d r

close_depth : (d : ℕ) (ts : List Token) → deepest (suc d) (token.Close ∷ ts) ≡ max (suc d) (deepest d ts)
close_depth d ts = let e : suc d - 1 ≡ d = omega arith in ap (λ n. max (suc d) (deepest n ts)) e

group_depth : (d i p r b c a : ℕ) → a ≡ max (suc d + i) c → c ≡ max (suc d) b → b ≡ max (d + p) r
    → max d a ≡ max (d + max (i + 1) p) r
group_depth d i p r b c a e f g = omega arith

pub depth_rule : (p : Pattern) (at d : ℕ) (r : List Token)
    → deepest d (tokens at p ++ r) ≡ max (d + depth p) (deepest d r)
depth_rule end at d r = let h : d ≤ deepest d r = least d r in omega arith
depth_rule (bar p) at d r = kept d (tokens (at + 1) p ++ r) ∙ depth_rule p (at + 1) d r
depth_rule (caret p) at d r = kept d (tokens (at + 1) p ++ r) ∙ depth_rule p (at + 1) d r
depth_rule (dollar p) at d r = kept d (tokens (at + 1) p ++ r) ∙ depth_rule p (at + 1) d r
depth_rule (one s q p) at d r = ap (deepest d)
    (append_assoc (single_tokens at s) (quant_tokens (at + length (single_text s)) q
    ++ tokens (at + length (piece_text s q)) p) r)
    ∙ (deepest_quiet d (single_tokens at s) _ (inner_single s at)
    ∙ (ap (deepest d) (append_assoc (quant_tokens (at + length (single_text s)) q)
    (tokens (at + length (piece_text s q)) p) r)
    ∙ (deepest_quant d q (at + length (single_text s)) (tokens (at + length (piece_text s q)) p ++ r)
    ∙ depth_rule p (at + length (piece_text s q)) d r)))
depth_rule (group bare inner q p) at d r =
    let n : ℕ = at + length (group_text bare inner once) in
    let rest : List Token = tokens (at + length (group_text bare inner q)) p in
    let after : List Token = (quant_tokens n q ++ rest) ++ r in
    let a : deepest (suc d) (tokens (at + length (opening bare)) inner ++ (token.Close ∷ after))
    ≡ max (suc d + depth inner) (deepest (suc d) (token.Close ∷ after)) =
    depth_rule inner (at + length (opening bare)) (suc d) (token.Close ∷ after) in
    let b : deepest (suc d) (token.Close ∷ after) ≡ max (suc d) (deepest d after) = close_depth d after in
    let c : deepest d after ≡ max (d + depth p) (deepest d r) = ap (deepest d) (append_assoc (quant_tokens n q) rest r)
    ∙ (deepest_quant d q n (rest ++ r) ∙ depth_rule p (at + length (group_text bare inner q)) d r) in
    ap (λ t. max d (deepest (suc d) t)) (append_assoc (tokens (at + length (opening bare)) inner)
    (token.Close ∷ (quant_tokens n q ++ rest)) r)
    ∙ group_depth d (depth inner) (depth p) (deepest d r) (deepest d after) (deepest (suc d) (token.Close ∷ after)) _ a
    b c

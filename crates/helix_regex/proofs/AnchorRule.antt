-- Bad anchors are found on a pattern's tokens as on the pattern.
use Rattle.std.proofs.Common.{◌≡◌, ℕ, ◌+◌, Bool, true, false, ◌||◌, nat_lt, Option, List, [], ◌++◌, length, refl, sym, ◌∙◌, ap, if◌then◌else◌}
use Rattle.std.proofs.lemmas.List.{append-nil}
use Rattle.std.specs.List.{list_any}
use Rattle.helix_regex.specs.declared.token.Token.{Token}
use Rattle.helix_regex.specs.declared.token.Token.TheVariants as token
use Rattle.helix_regex.specs.Pattern.{star, plus, question, exactly, at_least, between, Quant, once, times, Pattern, end, bar, caret, dollar, one, group, single_text, opening, pattern_text}
use Rattle.helix_regex.specs.Meaning.{has_caret, has_dollar}
use Rattle.helix_regex.specs.Faults.{piece_text, group_text, stray_anchors, outer_bars, bad_anchors, lesser, least_of}
use Rattle.helix_regex.specs.Inner.Tokens.{single_tokens, quant_tokens, tokens}
use Rattle.helix_regex.specs.Inner.Rules.{some_if, least_some, stray_at, is_caret, is_dollar, outer_bar, anchors_found}
use Rattle.helix_regex.proofs.Quiet.{inner_single, least_quiet, any_quiet, quiet_stray, quiet_caret, quiet_dollar}
use Rattle.helix_regex.proofs.Choosing.{least_of-append, least_some-append, any-append, least_if}
use Rattle.helix_regex.proofs.BarRule.{bars_rule, first_least}

-- anchors
stray_quant : (size : ℕ) (q : Quant) (at : ℕ) (r : List Token)
    → least_some (stray_at size) (quant_tokens at q ++ r) ≡ least_some (stray_at size) r
stray_quant size once at r = refl
stray_quant size (times star lazy) at r = refl
stray_quant size (times plus lazy) at r = refl
stray_quant size (times question lazy) at r = refl
stray_quant size (times (exactly ds) lazy) at r = refl
stray_quant size (times (at_least ds) lazy) at r = refl
stray_quant size (times (between ds es) lazy) at r = refl

pub strays_rule : (size : ℕ) (p : Pattern) (at : ℕ)
    → least_some (stray_at size) (tokens at p) ≡ least_of (stray_anchors size at p)
strays_rule size end at = refl
strays_rule size (bar p) at = strays_rule size p (at + 1)
strays_rule size (caret p) at = ap (lesser (some_if (nat_lt 0 at) at)) (strays_rule size p (at + 1))
    ∙ sym (least_if (nat_lt 0 at) at (stray_anchors size (at + 1) p))
strays_rule size (dollar p) at = ap (lesser (some_if (nat_lt (at + 1) size) at)) (strays_rule size p (at + 1))
    ∙ sym (least_if (nat_lt (at + 1) size) at (stray_anchors size (at + 1) p))
strays_rule size (one s q p) at = least_quiet (stray_at size) (quiet_stray size) (single_tokens at s) _
    (inner_single s at)
    ∙ (stray_quant size q (at + length (single_text s)) (tokens (at + length (piece_text s q)) p)
    ∙ strays_rule size p (at + length (piece_text s q)))
strays_rule size (group bare inner q p) at =
    least_some-append (stray_at size) (tokens (at + length (opening bare)) inner) _
    ∙ (ap (lesser (least_some (stray_at size) (tokens (at + length (opening bare)) inner)))
    (stray_quant size q (at + length (group_text bare inner once)) (tokens (at + length (group_text bare inner q)) p)
    ∙ strays_rule size p (at + length (group_text bare inner q)))
    ∙ (ap (λ x. lesser x (least_of (stray_anchors size (at + length (group_text bare inner q)) p)))
    (strays_rule size inner (at + length (opening bare)))
    ∙ sym (least_of-append (stray_anchors size (at + length (opening bare)) inner)
    (stray_anchors size (at + length (group_text bare inner q)) p))))

any_quant : (f : Token → Bool) → ((least : ℕ) (most : Option ℕ) (at : ℕ) → f (token.Repeat least most at) ≡ false)
    → (q : Quant) (at : ℕ) (r : List Token)
    → list_any f (quant_tokens at q ++ r) ≡ list_any f r
any_quant f h once at r = refl
any_quant f h (times star lazy) at r = ap (λ b. b || list_any f r) (h _ _ _)
any_quant f h (times plus lazy) at r = ap (λ b. b || list_any f r) (h _ _ _)
any_quant f h (times question lazy) at r = ap (λ b. b || list_any f r) (h _ _ _)
any_quant f h (times (exactly ds) lazy) at r = ap (λ b. b || list_any f r) (h _ _ _)
any_quant f h (times (at_least ds) lazy) at r = ap (λ b. b || list_any f r) (h _ _ _)
any_quant f h (times (between ds es) lazy) at r = ap (λ b. b || list_any f r) (h _ _ _)

pub caret_rule : (p : Pattern) (at : ℕ) → list_any is_caret (tokens at p) ≡ has_caret p
caret_rule end at = refl
caret_rule (bar p) at = caret_rule p (at + 1)
caret_rule (caret p) at = refl
caret_rule (dollar p) at = caret_rule p (at + 1)
caret_rule (one s q p) at = any_quiet is_caret quiet_caret (single_tokens at s) _ (inner_single s at)
    ∙ (any_quant is_caret (λ a b c. refl) q (at + length (single_text s)) (tokens (at + length (piece_text s q)) p)
    ∙ caret_rule p (at + length (piece_text s q)))
caret_rule (group bare inner q p) at = any-append is_caret (tokens (at + length (opening bare)) inner) _
    ∙ (ap (λ b. b || list_any is_caret (quant_tokens (at + length (group_text bare inner once)) q
    ++ tokens (at + length (group_text bare inner q)) p)) (caret_rule inner (at + length (opening bare)))
    ∙ ap (λ b. has_caret inner || b) (any_quant is_caret (λ a b c. refl) q (at + length (group_text bare inner once))
    (tokens (at + length (group_text bare inner q)) p) ∙ caret_rule p (at + length (group_text bare inner q))))

pub dollar_rule : (p : Pattern) (at : ℕ) → list_any is_dollar (tokens at p) ≡ has_dollar p
dollar_rule end at = refl
dollar_rule (bar p) at = dollar_rule p (at + 1)
dollar_rule (caret p) at = dollar_rule p (at + 1)
dollar_rule (dollar p) at = refl
dollar_rule (one s q p) at = any_quiet is_dollar quiet_dollar (single_tokens at s) _ (inner_single s at)
    ∙ (any_quant is_dollar (λ a b c. refl) q (at + length (single_text s)) (tokens (at + length (piece_text s q)) p)
    ∙ dollar_rule p (at + length (piece_text s q)))
dollar_rule (group bare inner q p) at = any-append is_dollar (tokens (at + length (opening bare)) inner) _
    ∙ (ap (λ b. b || list_any is_dollar (quant_tokens (at + length (group_text bare inner once)) q
    ++ tokens (at + length (group_text bare inner q)) p)) (dollar_rule inner (at + length (opening bare)))
    ∙ ap (λ b. has_dollar inner || b) (any_quant is_dollar (λ a b c. refl) q (at + length (group_text bare inner once))
    (tokens (at + length (group_text bare inner q)) p) ∙ dollar_rule p (at + length (group_text bare inner q))))

-- what the rule on anchors finds
both_found : (a bars : List ℕ) (b : Bool)
    → least_of (a ++ (if b then bars else [])) ≡ anchors_found (least_of a) b (least_of bars)
both_found a bars true = least_of-append a bars
both_found a bars false = ap least_of (append-nil a)

pub anchors_rule : (p : Pattern)
    → anchors_found (least_some (stray_at (length (pattern_text p))) (tokens 0 p)) (list_any is_caret (tokens 0 p)
    || list_any is_dollar (tokens 0 p)) (outer_bar 0 (tokens 0 p)) ≡ least_of (bad_anchors p)
anchors_rule p =
    ap (λ x. anchors_found x (list_any is_caret (tokens 0 p)
    || list_any is_dollar (tokens 0 p)) (outer_bar 0 (tokens 0 p))) (strays_rule (length (pattern_text p)) p 0)
    ∙ (ap (λ x. anchors_found (least_of (stray_anchors (length (pattern_text p)) 0 p)) (x
    || list_any is_dollar (tokens 0 p)) (outer_bar 0 (tokens 0 p))) (caret_rule p 0)
    ∙ (ap (λ x. anchors_found (least_of (stray_anchors (length (pattern_text p)) 0 p)) (has_caret p
    || x) (outer_bar 0 (tokens 0 p))) (dollar_rule p 0)
    ∙ (ap (λ x. anchors_found (least_of (stray_anchors (length (pattern_text p)) 0 p)) (has_caret p || has_dollar p) x)
    (bars_rule p 0 ∙ first_least p 0)
    ∙ sym (both_found (stray_anchors (length (pattern_text p)) 0 p) (outer_bars 0 p) (has_caret p || has_dollar p)))))

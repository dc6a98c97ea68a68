-- Turned ranges are found on a pattern's tokens as on the pattern.
use Rattle.std.proofs.Common.{◌≡◌, ℕ, ◌+◌, true, false, nat_lt, List, [], ◌∷◌, ◌++◌, length, refl, sym, ◌∙◌, ap, append_assoc}
use Rattle.helix_regex.specs.declared.token.Token.{Token}
use Rattle.helix_regex.specs.declared.token.Token.TheVariants as token
use Rattle.helix_regex.specs.Pattern.{Item, single, range, set_item, dash, Single, literal, dot, escape, set, class, star, plus, question, exactly, at_least, between, Quant, once, times, Pattern, end, bar, caret, dollar, one, group, item_text, single_text, opening}
use Rattle.helix_regex.specs.Meaning.{code_of}
use Rattle.helix_regex.specs.Faults.{piece_text, group_text, reversed_ranges, ranges_in, bad_ranges, first_of}
use Rattle.helix_regex.specs.Inner.Tokens.{item_tokens, single_tokens, quant_tokens, tokens}
use Rattle.helix_regex.specs.Inner.Rules.{or_else, some_if, first_some, reversed_at}
use Rattle.helix_regex.proofs.Choosing.{or_else-assoc, first_of-append, first_some-append, first_if}

-- ranges
reversed_items : (is : List Item) (at : ℕ) (r : List Token)
    → first_some reversed_at (item_tokens at is ++ r)
    ≡ or_else (first_of (reversed_ranges at is)) (first_some reversed_at r)
reversed_items [] at r = refl
reversed_items (single e ∷ is) at r = reversed_items is (at + length (item_text (single e))) r
reversed_items (range e f ∷ is) at r = ap (or_else (some_if (nat_lt (code_of f) (code_of e)) at))
    (reversed_items is (at + length (item_text (range e f))) r)
    ∙ (sym (or_else-assoc (some_if (nat_lt (code_of f) (code_of e)) at)
    (first_of (reversed_ranges (at + length (item_text (range e f))) is)) (first_some reversed_at r))
    ∙ ap (λ x. or_else x (first_some reversed_at r))
    (sym (first_if (nat_lt (code_of f) (code_of e)) at (reversed_ranges (at + length (item_text (range e f))) is))))
reversed_items (set_item c ∷ is) at r = reversed_items is (at + length (item_text (set_item c))) r
reversed_items (dash ∷ is) at r = reversed_items is (at + length (item_text dash)) r

reversed_single : (s : Single) (at : ℕ) (r : List Token)
    → first_some reversed_at (single_tokens at s ++ r) ≡ or_else (first_of (ranges_in at s)) (first_some reversed_at r)
reversed_single (literal c) at r = refl
reversed_single dot at r = refl
reversed_single (escape c) at r = refl
reversed_single (set c) at r = refl
reversed_single (class true is) at r = ap (first_some reversed_at)
    (append_assoc (item_tokens (at + 2) is) (token.ClassEnd ∷ []) r) ∙ reversed_items is (at + 2) (token.ClassEnd ∷ r)
reversed_single (class false is) at r =
    ap (first_some reversed_at) (append_assoc (item_tokens (at + 1) is) (token.ClassEnd ∷ []) r)
    ∙ reversed_items is (at + 1) (token.ClassEnd ∷ r)

reversed_quant : (q : Quant) (at : ℕ) (r : List Token)
    → first_some reversed_at (quant_tokens at q ++ r) ≡ first_some reversed_at r
reversed_quant once at r = refl
reversed_quant (times star lazy) at r = refl
reversed_quant (times plus lazy) at r = refl
reversed_quant (times question lazy) at r = refl
reversed_quant (times (exactly ds) lazy) at r = refl
reversed_quant (times (at_least ds) lazy) at r = refl
reversed_quant (times (between ds es) lazy) at r = refl

pub ranges_rule : (p : Pattern) (at : ℕ) → first_some reversed_at (tokens at p) ≡ first_of (bad_ranges at p)
ranges_rule end at = refl
ranges_rule (bar p) at = ranges_rule p (at + 1)
ranges_rule (caret p) at = ranges_rule p (at + 1)
ranges_rule (dollar p) at = ranges_rule p (at + 1)
ranges_rule (one s q p) at = reversed_single s at
    (quant_tokens (at + length (single_text s)) q ++ tokens (at + length (piece_text s q)) p)
    ∙ (ap (or_else (first_of (ranges_in at s)))
    (reversed_quant q (at + length (single_text s)) (tokens (at + length (piece_text s q)) p)
    ∙ ranges_rule p (at + length (piece_text s q)))
    ∙ sym (first_of-append (ranges_in at s) (bad_ranges (at + length (piece_text s q)) p)))
ranges_rule (group bare inner q p) at = first_some-append reversed_at (tokens (at + length (opening bare)) inner) _
    ∙ (ap (or_else (first_some reversed_at (tokens (at + length (opening bare)) inner)))
    (reversed_quant q (at + length (group_text bare inner once)) (tokens (at + length (group_text bare inner q)) p)
    ∙ ranges_rule p (at + length (group_text bare inner q)))
    ∙ (ap (λ x. or_else x (first_of (bad_ranges (at + length (group_text bare inner q)) p)))
    (ranges_rule inner (at + length (opening bare)))
    ∙ sym (first_of-append (bad_ranges (at + length (opening bare)) inner)
    (bad_ranges (at + length (group_text bare inner q)) p))))

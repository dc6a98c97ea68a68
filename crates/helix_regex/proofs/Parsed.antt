-- A text that breaks no rule has no fault.
use Rattle.std.proofs.Common.{◌≡◌, ◌≢◌, ℕ, true, false, Option, Some, None, IfSome, IfNone, List, [], length, sym, ◌∙◌, ap, subst}
use Rattle.helix_regex.specs.declared.token.Token.{Token}
use Rattle.helix_expr.specs.declared.regex.Regex.{Regex}
use Rattle.helix_regex.specs.declared.fault.RegexFault.{RegexFault}
use Rattle.helix_regex.specs.declared.fault.RegexRule.{RegexRule}
use Rattle.helix_regex.specs.declared.fault.RegexRule.TheVariants as rule
use Rattle.helix_regex.specs.Pattern.{Pattern, pattern_text, Writes}
use Rattle.helix_regex.specs.Meaning.{MeansRegex, SpellsPattern}
use Rattle.helix_regex.specs.Faults.{AreCharacters, bad_anchors, bad_ranges, bad_counts, is_too_large, first_of, least_of, Breaks, FirstFault}
use Rattle.helix_regex.specs.Inner.Tokens.{tokens}
use Rattle.helix_regex.specs.Inner.Rules.{token_fault}
use Rattle.helix_regex.proofs.ReadingPatterns as reading
use Rattle.helix_regex.proofs.Scanned.{character_at}
use Rattle.helix_regex.proofs.Faulty.{pattern_fault, found_is, found_fault, found_none, IsSound}

-- a pattern's text has only the faults that its rules find
no_least : (xs : List ℕ) (at : ℕ) → xs ≡ [] → least_of xs ≢ Some at
no_least xs at e f = let g : None ≡ Some at = sym (ap least_of e) ∙ f in cc

no_first : (xs : List ℕ) (at : ℕ) → xs ≡ [] → first_of xs ≢ Some at
no_first xs at e f = let g : None ≡ Some at = sym (ap first_of e) ∙ f in cc

no_break : (text : List ℕ) (p : Pattern) (r : RegexRule) (at : ℕ) → AreCharacters text → Writes text p → IsSound p
    → ¬ (Breaks r text at)
no_break text p rule.OutsideAlphabet at letters w sound b = b.other (character_at text at letters b.within)
no_break text p rule.Syntax at letters w sound b = b.1.no_member (p, w)
no_break text p rule.Anchor at letters w sound (l, (q, v, e)) =
    no_least (bad_anchors q) at (subst (λ x. bad_anchors x ≡ []) (reading.one_pattern text p q w v) sound.anchors) e
no_break text p rule.BadRange at letters w sound (l, (q, v, a, e)) =
    no_first (bad_ranges 0 q) at (subst (λ x. bad_ranges 0 x ≡ []) (reading.one_pattern text p q w v) sound.ranges) e
no_break text p rule.BadCount at letters w sound (l, (q, v, a, c, e)) =
    no_first (bad_counts 0 q) at (subst (λ x. bad_counts 0 x ≡ []) (reading.one_pattern text p q w v) sound.counts) e
no_break text p rule.TooLarge at letters w sound (l, (q, v, a, c, d, e, z)) =
    let f : is_too_large q ≡ false = subst (λ x. is_too_large x ≡ false) (reading.one_pattern text p q w v) sound.size
    in
    let g : true ≡ false = sym e ∙ f in cc

pub no_fault : (text : List ℕ) (p : Pattern) → AreCharacters text → Writes text p → IsSound p → (fault : RegexFault)
    → ¬ (FirstFault text fault)
no_fault text p letters w sound fault = no_break text p fault.rule fault.at letters w sound

-- what is found on the tokens
found : (text : List ℕ) (p : Pattern) (ts : List Token) (o : Option RegexFault) → Writes text p → ts ≡ tokens 0 p
    → o ≡ token_fault (length text) ts → o ≡ pattern_fault p
found text p ts o w e f = f ∙ (ap (λ n. token_fault n ts) (ap length w.is)
    ∙ (ap (token_fault (length (pattern_text p))) e ∙ found_is p))

pub is_first : (text : List ℕ) → AreCharacters text
    → (written : (p : Pattern) × Writes text p) (ts : List Token) (o : Option RegexFault) (fault : RegexFault)
    → ((p : Pattern) → Writes text p → ts ≡ tokens 0 p)
    → o ≡ token_fault (length text) ts → o ≡ Some fault → FirstFault text fault
is_first text l (p, w) ts o fault e f g =
    subst (λ x. IfSome x (FirstFault text)) g (found_fault text p o l w (found text p ts o w (e p w) f))

pub is_sound : (text : List ℕ) (p : Pattern) (ts : List Token) (o : Option RegexFault) → Writes text p → ts ≡ tokens 0 p
    → o ≡ token_fault (length text) ts → o ≡ None → IsSound p
is_sound text p ts o w e f g = subst (λ x. IfNone x (IsSound p)) g (found_none p o (found text p ts o w e f))

pub spells : (text : List ℕ) (written : (p : Pattern)
    × Writes text p) (ts : List Token) (o : Option RegexFault) (regex : Regex)
    → ((p : Pattern) → Writes text p → ts ≡ tokens 0 p)
    → o ≡ token_fault (length text) ts → o ≡ None
    → ((p : Pattern) → ts ≡ tokens 0 p → bad_counts 0 p ≡ [] → MeansRegex p regex) → SpellsPattern text regex
spells text (p, w) ts o regex e f g h = (p, w, h p (e p w) (is_sound text p ts o w (e p w) f g).counts)

pub faultless : (text : List ℕ) (written : (p : Pattern) × Writes text p) (ts : List Token) (o : Option RegexFault)
    → AreCharacters text → ((p : Pattern) → Writes text p → ts ≡ tokens 0 p)
    → o ≡ token_fault (length text) ts → o ≡ None → (fault : RegexFault) → ¬ (FirstFault text fault)
faultless text (p, w) ts o letters e f g = no_fault text p letters w (is_sound text p ts o w (e p w) f g)

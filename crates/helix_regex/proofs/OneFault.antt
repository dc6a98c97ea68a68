-- A text has at most one first fault.
use Rattle.std.proofs.Common.{◌≡◌, ℕ, ◌<◌, inl, inr, IsTrue, Some, None, List, take, sym, ◌∙◌, ap, subst, arith}
use Rattle.std.proofs.lemmas.Bool.{cases_order}
use Rattle.std.proofs.lemmas.List.{get_or-take, length-take-le}
use Rattle.helix_regex.specs.declared.fault.RegexFault.{RegexFault}
use Rattle.helix_regex.specs.declared.fault.RegexRule.{RegexRule}
use Rattle.helix_regex.specs.declared.fault.RegexRule.TheVariants as rule
use Rattle.helix_regex.specs.Characters.{is_character}
use Rattle.helix_regex.specs.Pattern.{Pattern, Writes}
use Rattle.helix_base.specs.Syntax.{IsSyntaxErrorAt}
use Rattle.helix_regex.specs.Faults.{IsFirstOutside, bad_ranges, bad_counts, is_too_large, first_of, least_of, Breaks, FirstFault, IsPatternText}
use Rattle.helix_regex.specs.Inner.Rules.{fault_at, first_rule}
use Rattle.helix_regex.proofs.ReadingPatterns as reading
use Rattle.helix_regex.proofs.Scanned.{character_at}
use Rattle.helix_regex.proofs.Faulty.{pattern_fault}

-- offsets of one kind are one
not_before : (text : List ℕ) (n m : ℕ) → IsFirstOutside text n → IsFirstOutside text m → ¬ (n < m)
not_before text n m a b lt = a.other (subst (λ c. IsTrue (is_character c)) (get_or-take m text n 0 lt)
    (character_at (take m text) n b.characters
    (subst (λ k. n < k) (sym (length-take-le m text (omega (arith, b.within)))) lt)))

one_outside : (text : List ℕ) (n m : ℕ) → IsFirstOutside text n → IsFirstOutside text m → n ≡ m
one_outside text n m a b = elim (cases_order n m) [
  | inl e ↦ e
  | inr f ↦ (elim f [ inl lt ↦ absurd (not_before text n m a b lt) | inr lt ↦ absurd (not_before text m n b a lt) ])
]

one_end : (text : List ℕ) (n m : ℕ) → IsSyntaxErrorAt IsPatternText text n → IsSyntaxErrorAt IsPatternText text m
    → n ≡ m
one_end text n m a b = elim (cases_order n m) [
  | inl e ↦ e
  | inr f ↦ (elim f [
    | inl lt ↦ absurd (a.longest m lt b.within b.viable)
    | inr lt ↦ absurd (b.longest n lt a.within a.viable)
  ])
]

abbrev IsLater : RegexRule → Type 0
IsLater rule.OutsideAlphabet = ⊥
IsLater rule.Syntax = ⊥
IsLater _ = Unit {0}

-- a later fault is found on the pattern
abbrev Found : List ℕ → RegexRule → ℕ → Type 0
Found text r at = (p : Pattern) × Writes text p × (pattern_fault p ≡ Some (fault_at r at))

found : (text : List ℕ) (r : RegexRule) (at : ℕ) → IsLater r → Breaks r text at → Found text r at
found text rule.OutsideAlphabet at h b = absurd h
found text rule.Syntax at h b = absurd h
found text rule.Anchor at h (l, (p, w, e)) =
    (p, w, ap (λ x. first_rule x (first_of (bad_ranges 0 p)) (first_of (bad_counts 0 p)) (is_too_large p)) e)
found text rule.BadRange at h (l, (p, w, a, e)) = (
  p,
  w,
  ap (λ x. first_rule (least_of x) (first_of (bad_ranges 0 p)) (first_of (bad_counts 0 p)) (is_too_large p)) a
      ∙ ap (λ x. first_rule None x (first_of (bad_counts 0 p)) (is_too_large p)) e,
)
found text rule.BadCount at h (l, (p, w, a, b, e)) = (
  p,
  w,
  ap (λ x. first_rule (least_of x) (first_of (bad_ranges 0 p)) (first_of (bad_counts 0 p)) (is_too_large p)) a
      ∙ (ap (λ x. first_rule None (first_of x) (first_of (bad_counts 0 p)) (is_too_large p)) b
      ∙ ap (λ x. first_rule None None x (is_too_large p)) e),
)
found text rule.TooLarge at h (l, (p, w, a, b, c, e, z)) = (
  p,
  w,
  ap (λ x. first_rule (least_of x) (first_of (bad_ranges 0 p)) (first_of (bad_counts 0 p)) (is_too_large p)) a
      ∙ (ap (λ x. first_rule None (first_of x) (first_of (bad_counts 0 p)) (is_too_large p)) b
      ∙ (ap (λ x. first_rule None None (first_of x) (is_too_large p)) c
      ∙ (ap (λ x. first_rule None None None x) e ∙ ap (λ n. Some (fault_at rule.TooLarge n)) (sym z)))),
)

unwrapped : (f g : RegexFault) → Some f ≡ Some g → f ≡ g
unwrapped f g e = cc

both_found : (text : List ℕ) (r s : RegexRule) (n m : ℕ) → Found text r n → Found text s m → fault_at r n ≡ fault_at s m
both_found text r s n m (p, w, e) (q, v, f) =
    unwrapped _ _ (sym e ∙ (ap pattern_fault (reading.one_pattern text p q w v) ∙ f))

same : (text : List ℕ) (r s : RegexRule) (n m : ℕ) → Breaks r text n → Breaks s text m → fault_at r n ≡ fault_at s m
same text rule.OutsideAlphabet rule.OutsideAlphabet n m a b =
    ap (fault_at rule.OutsideAlphabet) (one_outside text n m a b)
same text rule.OutsideAlphabet _ n m a b = absurd (a.other (character_at text n b.0 a.within))
same text _ rule.OutsideAlphabet n m a b = absurd (b.other (character_at text m a.0 b.within))
same text rule.Syntax rule.Syntax n m a b = ap (fault_at rule.Syntax) (one_end text n m a.1 b.1)
same text rule.Syntax _ n m a b = absurd (a.1.no_member (b.1.0, b.1.1))
same text _ rule.Syntax n m a b = absurd (b.1.no_member (a.1.0, a.1.1))
same text rule.Anchor s n m a b = both_found text rule.Anchor s n m (found text rule.Anchor n tt a)
    (found text s m tt b)
same text rule.BadRange s n m a b = both_found text rule.BadRange s n m (found text rule.BadRange n tt a)
    (found text s m tt b)
same text rule.BadCount s n m a b = both_found text rule.BadCount s n m (found text rule.BadCount n tt a)
    (found text s m tt b)
same text rule.TooLarge s n m a b = both_found text rule.TooLarge s n m (found text rule.TooLarge n tt a)
    (found text s m tt b)

pub one_fault : (text : List ℕ) (f g : RegexFault) → FirstFault text f → FirstFault text g → f ≡ g
one_fault text f g a b = same text f.rule g.rule f.at g.at a b

-- What is found on the tokens of a pattern is its first fault.
use Rattle.std.proofs.Common.{◌≡◌, ℕ, Bool, true, false, Option, Some, None, IfSome, IfNone, List, [], ◌∷◌, length, refl, sym, ◌∙◌, ap, subst}
use Rattle.helix_regex.specs.declared.fault.RegexFault.{RegexFault}
use Rattle.helix_regex.specs.Pattern.{Pattern, pattern_text, Writes}
use Rattle.helix_regex.specs.Faults.{AreCharacters, bad_anchors, bad_ranges, bad_counts, is_too_large, first_of, least_of, lesser, FirstFault}
use Rattle.helix_regex.specs.Inner.Tokens.{tokens}
use Rattle.helix_regex.specs.Inner.Rules.{first_rule, token_fault}
use Rattle.helix_regex.proofs.AnchorRule.{anchors_rule}
use Rattle.helix_regex.proofs.RangeRule.{ranges_rule}
use Rattle.helix_regex.proofs.CountRule.{counts_rule}
use Rattle.helix_regex.proofs.Counted.{size_rule}

-- the pattern breaks no rule
pub record IsSound (pattern : Pattern) : Type 0 where
  pub anchors : bad_anchors pattern ≡ []
  pub ranges : bad_ranges 0 pattern ≡ []
  pub counts : bad_counts 0 pattern ≡ []
  pub size : is_too_large pattern ≡ false

no_first : (xs : List ℕ) → first_of xs ≡ None → xs ≡ []
no_first [] e = refl
no_first (x ∷ xs) e = cc

some_lesser : (x : ℕ) (o : Option ℕ) → lesser (Some x) o ≡ None → ⊥
some_lesser x None e = cc
some_lesser x (Some y) e = cc

no_least : (xs : List ℕ) → least_of xs ≡ None → xs ≡ []
no_least [] e = refl
no_least (x ∷ xs) e = absurd (some_lesser x (least_of xs) e)

-- the fault of a pattern, by its rules
abbrev pub pattern_fault : Pattern → Option RegexFault
pattern_fault p = first_rule (least_of (bad_anchors p)) (first_of (bad_ranges 0 p)) (first_of (bad_counts 0 p))
    (is_too_large p)

by_size : (a b c : Option ℕ) (d e : Bool) → (c ≡ None → d ≡ e) → first_rule a b c d ≡ first_rule a b c e
by_size (Some x) b c d e h = refl
by_size None (Some x) c d e h = refl
by_size None None (Some x) d e h = refl
by_size None None None d e h = ap (first_rule None None None) (h refl)

same_rule : (a a2 b b2 c c2 : Option ℕ) (d : Bool) → a ≡ a2 → b ≡ b2 → c ≡ c2
    → first_rule a b c d ≡ first_rule a2 b2 c2 d
same_rule a a2 b b2 c c2 d e f g = ap (λ x. first_rule x b c d) e
    ∙ (ap (λ x. first_rule a2 x c d) f ∙ ap (λ x. first_rule a2 b2 x d) g)

pub found_is : (p : Pattern) → token_fault (length (pattern_text p)) (tokens 0 p) ≡ pattern_fault p
found_is p = same_rule _ (least_of (bad_anchors p)) _ (first_of (bad_ranges 0 p)) _ (first_of (bad_counts 0 p)) _
    (anchors_rule p) (ranges_rule p 0) (counts_rule p 0)
    ∙ by_size (least_of (bad_anchors p)) (first_of (bad_ranges 0 p)) (first_of (bad_counts 0 p)) _ (is_too_large p)
    (λ none. size_rule p (no_first (bad_counts 0 p) none))

-- a fault that is found is the first, and where none is found the pattern is sound
first_fault : (text : List ℕ) (p : Pattern) (a b c : Option ℕ) (d : Bool) → AreCharacters text → Writes text p
    → least_of (bad_anchors p) ≡ a → first_of (bad_ranges 0 p) ≡ b → first_of (bad_counts 0 p) ≡ c → is_too_large p ≡ d
    → IfSome (first_rule a b c d) (FirstFault text)
first_fault text p (Some at) b c d l w e f g h = (l, (p, w, e))
first_fault text p None (Some at) c d l w e f g h = (l, (p, w, no_least (bad_anchors p) e, f))
first_fault text p None None (Some at) d l w e f g h =
    (l, (p, w, no_least (bad_anchors p) e, no_first (bad_ranges 0 p) f, g))
first_fault text p None None None true l w e f g h =
    (l, (p, w, no_least (bad_anchors p) e, no_first (bad_ranges 0 p) f, no_first (bad_counts 0 p) g, h, refl))
first_fault text p None None None false l w e f g h = tt

no_fault : (p : Pattern) (a b c : Option ℕ) (d : Bool) → least_of (bad_anchors p) ≡ a → first_of (bad_ranges 0 p) ≡ b
    → first_of (bad_counts 0 p) ≡ c → is_too_large p ≡ d
    → IfNone (first_rule a b c d) (IsSound p)
no_fault p (Some at) b c d e f g h = tt
no_fault p None (Some at) c d e f g h = tt
no_fault p None None (Some at) d e f g h = tt
no_fault p None None None true e f g h = tt
no_fault p None None None false e f g h =
    record {
      anchors = no_least (bad_anchors p) e;
      ranges = no_first (bad_ranges 0 p) f;
      counts = no_first (bad_counts 0 p) g;
      size = h;
    }

pub found_fault : (text : List ℕ) (p : Pattern) (found : Option RegexFault) → AreCharacters text → Writes text p
    → found ≡ pattern_fault p → IfSome found (FirstFault text)
found_fault text p found l w e = subst (λ o. IfSome o (FirstFault text)) (sym e)
    (first_fault text p _ _ _ _ l w refl refl refl refl)

pub found_none : (p : Pattern) (found : Option RegexFault) → found ≡ pattern_fault p → IfNone found (IsSound p)
found_none p found e = subst (λ o. IfNone o (IsSound p)) (sym e) (no_fault p _ _ _ _ refl refl refl refl)

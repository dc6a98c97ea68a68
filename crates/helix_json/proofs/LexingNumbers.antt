-- Blanks and numbers are read up to their end.
use Rattle.std.proofs.Common.{◌≡◌, ℕ, ◌≤◌, ◌<◌, ◌⊎◌, inl, inr, true, false, IsTrue, ◌==◌, ◌||◌, Option, Some, None, List, [], ◌∷◌, ◌++◌, refl, sym, ◌∙◌, ap, arith, append_assoc}
use Rattle.std.proofs.lemmas.Bool.{eqb-true, cond-true, cond-false, false_from_ne_true, ne_eqb, or_cases}
use Rattle.std.proofs.lemmas.List.{append-nil}
use Rattle.helix_json.specs.declared.token.Token.{Token}
use Rattle.helix_json.specs.declared.token.Token.TheVariants as token
use Rattle.helix_json.specs.declared.class.Mark.{Mark}
use Rattle.helix_json.specs.declared.class.Mark.TheVariants as mark
use Rattle.helix_json.specs.declared.class.Class.TheVariants as class_is
use Rattle.helix_json.specs.declared.digits.NumberState.{NumberState}
use Rattle.helix_json.specs.declared.digits.NumberState.TheVariants as number
use Rattle.helix_json.specs.declared.digits.NumberCharacter.{NumberCharacter}
use Rattle.helix_json.specs.declared.digits.NumberCharacter.TheVariants as kind
use Rattle.helix_json.specs.Inner.NumberSteps.{kind_of, number_step, if_some, accepts}
use Rattle.helix_json.specs.Text.{is_blank, AreBlanks}
use Rattle.helix_json.specs.Inner.Lexer.{Lex, between, in_number, lex, on_emission, prepend, class, by_class, between_step, number_move, end_number, end_tokens, with_token, Emission}
use Rattle.helix_json.proofs.NumberGrammar.{Means}
use Rattle.helix_json.proofs.Strings.{prepend_nil}

-- what a class says of a character
abbrev pub mark_code : Mark → ℕ
mark_code mark.OpenList = 91
mark_code mark.CloseList = 93
mark_code mark.OpenObject = 123
mark_code mark.CloseObject = 125
mark_code mark.Comma = 44
mark_code mark.Colon = 58

pub blank_class : (c : ℕ) → IsTrue (is_blank c) → class c ≡ class_is.Blank
blank_class c e = cond-true _ _ _ e

pub blank_cases : (c : ℕ) → IsTrue (is_blank c) → kind_of c ≡ kind.Other
blank_cases c e = elim (or_cases _ _ e) [
  | inl f ↦ (elim (or_cases _ _ f) [
    | inl g ↦ (elim (or_cases _ _ g) [ inl h ↦ ap kind_of (eqb-true c 32 h) | inr h ↦ ap kind_of (eqb-true c 9 h) ])
    | inr g ↦ ap kind_of (eqb-true c 10 g)
  ])
  | inr f ↦ ap kind_of (eqb-true c 13 f)
]

at_most : (c k : ℕ) → 44 < c → k ≤ 44 → (c == k) ≡ true → ⊥
at_most c k low small e = let f : c ≡ k = eqb-true c k e in omega arith

blank_least : (c : ℕ) → 44 < c → (((c == 32 || c == 9) ≡ true) ⊎ ((c == 10) ≡ true)) → ⊥
blank_least c low (inl f) = elim (or_cases _ _ f) [
  | inl g ↦ at_most c 32 low (omega arith) g
  | inr g ↦ at_most c 9 low (omega arith) g
]
blank_least c low (inr f) = at_most c 10 low (omega arith) f

blank_small : (c : ℕ) → 44 < c → IsTrue (is_blank c) → ⊥
blank_small c low e = elim (or_cases _ _ e) [
  | inl f ↦ blank_least c low (or_cases _ _ f)
  | inr f ↦ at_most c 13 low (omega arith) f
]

not_blank : (c : ℕ) → 44 < c → is_blank c ≡ false
not_blank c low = false_from_ne_true _ (λ e. blank_small c low e)

-- a character that begins a number
other_class : (c : ℕ) → 44 < c → c < 58 → class c ≡ class_is.Other
other_class c low high = cond-false _ _ _ (not_blank c low)
    ∙ (cond-false _ _ _ (ne_eqb c 91 (λ e. omega arith)) ∙ (cond-false _ _ _ (ne_eqb c 93 (λ e. omega arith))
    ∙ (cond-false _ _ _ (ne_eqb c 123 (λ e. omega arith))
    ∙ (cond-false _ _ _ (ne_eqb c 125 (λ e. omega arith)) ∙ (cond-false _ _ _ (ne_eqb c 44 (λ e. omega arith))
    ∙ (cond-false _ _ _ (ne_eqb c 58 (λ e. omega arith))
    ∙ (cond-false _ _ _ (ne_eqb c 34 (λ e. omega arith)) ∙ (cond-false _ _ _ (ne_eqb c 110 (λ e. omega arith))
    ∙ (cond-false _ _ _ (ne_eqb c 116 (λ e. omega arith)) ∙ cond-false _ _ _ (ne_eqb c 102 (λ e. omega arith)))))))))))

pub number_class : (c : ℕ) (k : NumberCharacter) (n : NumberState) → Means k c → number_step number.Nothing k ≡ Some n
    → class c ≡ class_is.Other
number_class c kind.Minus n m e = other_class c (omega arith) (omega arith)
number_class c kind.Zero n m e = other_class c (omega arith) (omega arith)
number_class c kind.Digit n m e = other_class c (omega (arith, m.0)) (omega (arith, m.1))
number_class c _ n m e = cc

-- blanks are passed
pub blanks_skip : (w r : List ℕ) → AreBlanks w → lex (w ++ r) between ≡ lex r between
unfolding lex
blanks_skip [] r h = refl
blanks_skip (c ∷ w) r h = ap (λ k. on_emission (by_class k c) (λ l. lex (w ++ r) l)) (blank_class c h.0)
    ∙ (prepend_nil _ ∙ blanks_skip w r h.1)

-- where a number ends
abbrev pub EndsNumber : List ℕ → Type 0
EndsNumber [] = Unit {0}
EndsNumber (c ∷ cs) = kind_of c ≡ kind.Other

no_step : (n : NumberState) → number_step n kind.Other ≡ None
no_step number.Nothing = refl
no_step number.Minus = refl
no_step number.Zero = refl
no_step number.Whole = refl
no_step number.Point = refl
no_step number.Fraction = refl
no_step number.Mark = refl
no_step number.Sign = refl
no_step number.Exponent = refl

prepend_twice : (t : Token) (ts : List Token) (o : Option (List Token))
    → prepend (t ∷ ts) o ≡ prepend (t ∷ []) (prepend ts o)
prepend_twice t ts None = refl
prepend_twice t ts (Some us) = refl

pub with_first : (t : Token) (e : Emission) (f : Lex → Option (List Token))
    → on_emission (with_token t e) f ≡ prepend (t ∷ []) (on_emission e f)
with_first t None f = refl
with_first t (Some (ts, l)) f = prepend_twice t ts (f l)

number_on : (c : ℕ) (text r sofar : List ℕ) (n : NumberState) (o : Option NumberState) → number_step n (kind_of c) ≡ o
    → if_some o (λ next. accepts next text) ≡ true
    → ((next : NumberState) → accepts next text ≡ true
    → lex (text ++ r) (in_number (sofar ++ c ∷ []) next)
    ≡ prepend (token.Number ((sofar ++ c ∷ []) ++ text) ∷ []) (lex r between))
    → lex (c ∷ text ++ r) (in_number sofar n) ≡ prepend (token.Number (sofar ++ c ∷ text) ∷ []) (lex r between)
unfolding lex
number_on c text r sofar n None is e ih = cc
number_on c text r sofar n (Some next) is e ih =
    ap (λ o. on_emission (number_move sofar n o c) (λ l. lex (text ++ r) l)) is
    ∙ (prepend_nil _
    ∙ (ih next e ∙ ap (λ l. prepend (token.Number l ∷ []) (lex r between)) (append_assoc sofar (c ∷ []) text)))

pub number_read : (text r sofar : List ℕ) (n : NumberState) → accepts n text ≡ true → EndsNumber r
    → lex (text ++ r) (in_number sofar n) ≡ prepend (token.Number (sofar ++ text) ∷ []) (lex r between)
unfolding lex accepts
number_read [] [] sofar n e stops = ap (end_tokens sofar) e
    ∙ ap (λ l. Some (token.Number l ∷ [])) (sym (append-nil sofar))
number_read [] (c ∷ cs) sofar n e stops =
    ap (λ o. on_emission (number_move sofar n o c) (λ l. lex cs l)) (ap (number_step n) stops ∙ no_step n)
    ∙ (ap (λ b. on_emission (end_number sofar b (between_step c)) (λ l. lex cs l)) e
    ∙ (with_first (token.Number sofar) (between_step c) (λ l. lex cs l)
    ∙ ap (λ l. prepend (token.Number l ∷ []) (lex (c ∷ cs) between)) (sym (append-nil sofar))))
number_read (c ∷ text) r sofar n e stops =
    number_on c text r sofar n (number_step n (kind_of c)) refl e
    (λ next h. number_read text r (sofar ++ c ∷ []) next h stops)

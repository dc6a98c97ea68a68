-- The token first in a text, and what follows it.
use Rattle.std.proofs.Common.{◌≡◌, ℕ, true, IsTrue, Option, Some, None, List, [], ◌∷◌, ◌++◌, refl, sym, ◌∙◌, ap, subst, append_assoc}
use Rattle.helix_json.specs.declared.token.Token.{Token}
use Rattle.helix_json.specs.declared.token.Token.TheVariants as token
use Rattle.helix_json.specs.declared.class.Mark.{Mark}
use Rattle.helix_json.specs.declared.class.Mark.TheVariants as mark
use Rattle.helix_json.specs.declared.class.Word.{Word}
use Rattle.helix_json.specs.declared.class.Word.TheVariants as word
use Rattle.helix_json.specs.declared.class.Class.TheVariants as class_is
use Rattle.helix_json.specs.declared.digits.NumberState.{NumberState}
use Rattle.helix_json.specs.declared.digits.NumberState.TheVariants as number
use Rattle.helix_json.specs.Inner.NumberSteps.{kind_of, number_step, if_some, accepts}
use Rattle.helix_json.specs.Inner.StringSteps.{Fine}
use Rattle.helix_json.specs.Numbers.{IsNumber}
use Rattle.helix_json.specs.Text.{is_blank, SpellsToken, SpellsChars, Cuts}
use Rattle.helix_json.specs.Inner.Lexer.{Lex, between, in_string, in_number, in_word, prepend, mark_token, word_token, word_rest}
use Rattle.helix_json.proofs.NumberGrammar.{tail_from}
use Rattle.helix_json.proofs.LexingNumbers.{mark_code}
use Rattle.helix_json.proofs.StringBack.{Prefix}
use Rattle.helix_json.proofs.ClassMeanings.{ClassMeans}

-- the tokens that a text gives, read on from a state
abbrev pub Goes : Lex → List ℕ → List Token → Type 0
Goes between text ts = Cuts text ts
Goes (in_string sofar s) text ts = (inner rest more : List ℕ) × (us : List Token) × (text ≡ inner ++ 34 ∷ rest)
    × ((p : List ℕ) → Fine s → Prefix s p → SpellsChars (p ++ inner) more) × (ts ≡ token.Str (sofar ++ more) ∷ us)
    × Cuts rest us
Goes (in_number sofar n) text ts = (digits rest : List ℕ) × (us : List Token) × (text ≡ digits ++ rest)
    × (accepts n digits ≡ true) × (ts ≡ token.Number (sofar ++ digits) ∷ us) × Cuts rest us
Goes (in_word w ws) text ts = (rest : List ℕ) × (us : List Token) × (text ≡ ws ++ rest) × (ts ≡ word_token w ∷ us)
    × Cuts rest us

-- taking off what a step prepended
pub unprepend : (t : Token) (o : Option (List Token)) (ts : List Token) → prepend (t ∷ []) o ≡ Some ts
    → (us : List Token) × (o ≡ Some us) × (ts ≡ t ∷ us)
unprepend t None ts e = cc
unprepend t (Some us) ts e = (us, refl, cc)

pub unprepend_nil : (o : Option (List Token)) (ts : List Token) → prepend [] o ≡ Some ts → o ≡ Some ts
unprepend_nil None ts e = cc
unprepend_nil (Some us) ts e = e

pub cuts_blank : (c : ℕ) (cs : List ℕ) (ts : List Token) → IsTrue (is_blank c) → Cuts cs ts → Cuts (c ∷ cs) ts
cuts_blank c cs [] b h = (b, h)
cuts_blank c cs (t ∷ ts) b (w, piece, rest, is, blanks, spells, others) =
    (c ∷ w, piece, rest, ap (λ l. c ∷ l) is, (b, blanks), spells, others)

pub mark_spells : (m : Mark) (c : ℕ) → c ≡ mark_code m → SpellsToken (c ∷ []) (mark_token m)
mark_spells mark.OpenList c e = ap (λ x. x ∷ []) e
mark_spells mark.CloseList c e = ap (λ x. x ∷ []) e
mark_spells mark.OpenObject c e = ap (λ x. x ∷ []) e
mark_spells mark.CloseObject c e = ap (λ x. x ∷ []) e
mark_spells mark.Comma c e = ap (λ x. x ∷ []) e
mark_spells mark.Colon c e = ap (λ x. x ∷ []) e

pub word_spells : (w : Word) (c : ℕ) → ClassMeans (class_is.Word w) c → SpellsToken (c ∷ word_rest w) (word_token w)
word_spells word.Null c e = ap (λ x. x ∷ word_rest word.Null) e
word_spells word.True c e = ap (λ x. x ∷ word_rest word.True) e
word_spells word.False c e = ap (λ x. x ∷ word_rest word.False) e

pub quoted : (c : ℕ) (cs inner rest : List ℕ) → cs ≡ inner ++ 34 ∷ rest → c ∷ cs ≡ (c ∷ inner ++ 34 ∷ []) ++ rest
quoted c cs inner rest is = ap (λ l. c ∷ l) (is ∙ sym (append_assoc inner (34 ∷ []) rest))

first_number : (c : ℕ) (n : NumberState) (digits : List ℕ) → number_step number.Nothing (kind_of c) ≡ Some n
    → accepts n digits ≡ true → IsNumber (c ∷ digits)
unfolding accepts
first_number c n digits is e = tail_from (c ∷ digits) number.Nothing
    (ap (λ o. if_some o (λ next. accepts next digits)) is ∙ e)

pub begun : (c : ℕ) (cs : List ℕ) (n : NumberState) (ts : List Token) → number_step number.Nothing (kind_of c) ≡ Some n
    → Goes (in_number (c ∷ []) n) cs ts → Cuts (c ∷ cs) ts
begun c cs n ts is (digits, rest, us, split, ok, prefix, others) =
    subst (Cuts (c ∷ cs)) (sym prefix) (
      [],
      c ∷ digits,
      rest,
      ap (λ l. c ∷ l) split,
      tt,
      (refl, first_number c n digits is ok),
      others,
    )

-- The tokens of a text, one character after the other.
use Rattle.std.specs.Prelude.{ℕ, Bool, true, false, ◌==◌, if◌then◌else◌, Option, Some, None, List, [], ◌∷◌, ◌++◌, codes}
use Rattle.helix_json.specs.declared.token.Token.{Token}
use Rattle.helix_json.specs.declared.token.Token.TheVariants as token
use Rattle.helix_json.specs.declared.class.Mark.{Mark}
use Rattle.helix_json.specs.declared.class.Mark.TheVariants as mark
use Rattle.helix_json.specs.declared.class.Word.{Word}
use Rattle.helix_json.specs.declared.class.Word.TheVariants as word
use Rattle.helix_json.specs.declared.class.Class.{Class}
use Rattle.helix_json.specs.declared.class.Class.TheVariants as class_is
use Rattle.helix_json.specs.declared.string.StringState.{StringState}
use Rattle.helix_json.specs.declared.string.StringState.TheVariants as state
use Rattle.helix_json.specs.declared.string.StringMove.{StringMove}
use Rattle.helix_json.specs.declared.string.StringMove.TheVariants as move
use Rattle.helix_json.specs.declared.digits.NumberState.{NumberState}
use Rattle.helix_json.specs.declared.digits.NumberState.TheVariants as number
use Rattle.helix_json.specs.Text.{is_blank}
use Rattle.helix_json.specs.Inner.NumberSteps.{kind_of, number_step, number_ends}
use Rattle.helix_json.specs.Inner.StringSteps.{string_step}

abbrev pub class : ℕ → Class
class c = if is_blank c then class_is.Blank
    else if c == 91 then class_is.Mark mark.OpenList
    else if c == 93 then class_is.Mark mark.CloseList
    else if c == 123 then class_is.Mark mark.OpenObject
    else if c == 125 then class_is.Mark mark.CloseObject
    else if c == 44 then class_is.Mark mark.Comma
    else if c == 58 then class_is.Mark mark.Colon
    else if c == 34 then class_is.Quote
    else if c == 110 then class_is.Word word.Null
    else if c == 116 then class_is.Word word.True
    else if c == 102 then class_is.Word word.False
    else class_is.Other

abbrev pub mark_token : Mark → Token
mark_token mark.OpenList = token.OpenList
mark_token mark.CloseList = token.CloseList
mark_token mark.OpenObject = token.OpenObject
mark_token mark.CloseObject = token.CloseObject
mark_token mark.Comma = token.Comma
mark_token mark.Colon = token.Colon

abbrev pub word_token : Word → Token
word_token word.Null = token.Null
word_token word.True = token.True
word_token word.False = token.False

-- after its first letter
abbrev pub word_rest : Word → List ℕ
word_rest word.Null = codes "ull"
word_rest word.True = codes "rue"
word_rest word.False = codes "alse"

-- between tokens, or inside of one, with what it has so far
pub data Lex : Type 0 where
  between : Lex
  in_string : List ℕ → StringState → Lex
  in_number : List ℕ → NumberState → Lex
  in_word : Word → List ℕ → Lex

-- a character is refused, or ends tokens and leads on
abbrev pub Emission : Type 0
Emission = Option (List Token × Lex)

abbrev pub begin_number : ℕ → Option NumberState → Emission
begin_number c None = None
begin_number c (Some n) = Some ([], in_number (c ∷ []) n)

abbrev pub by_class : Class → ℕ → Emission
by_class class_is.Blank c = Some ([], between)
by_class (class_is.Mark m) c = Some (mark_token m ∷ [], between)
by_class class_is.Quote c = Some ([], in_string [] state.Plain)
by_class (class_is.Word w) c = Some ([], in_word w (word_rest w))
by_class class_is.Other c = begin_number c (number_step number.Nothing (kind_of c))

abbrev pub between_step : ℕ → Emission
between_step c = by_class (class c) c

abbrev pub string_move : List ℕ → StringMove → Emission
string_move sofar move.Refuse = None
string_move sofar (move.Go s) = Some ([], in_string sofar s)
string_move sofar (move.Give c) = Some ([], in_string (sofar ++ c ∷ []) state.Plain)
string_move sofar move.Close = Some (token.Str sofar ∷ [], between)

abbrev pub with_token : Token → Emission → Emission
with_token t None = None
with_token t (Some (ts, l)) = Some (t ∷ ts, l)

abbrev pub end_number : List ℕ → Bool → Emission → Emission
end_number sofar true e = with_token (token.Number sofar) e
end_number sofar false e = None

abbrev pub number_move : List ℕ → NumberState → Option NumberState → ℕ → Emission
number_move sofar n (Some next) c = Some ([], in_number (sofar ++ c ∷ []) next)
number_move sofar n None c = end_number sofar (number_ends n) (between_step c)

abbrev pub word_move : Word → ℕ → List ℕ → Emission
word_move w c [] = None
word_move w c (d ∷ []) = if c == d then Some (word_token w ∷ [], between) else None
word_move w c (d ∷ e ∷ es) = if c == d then Some ([], in_word w (e ∷ es)) else None

abbrev pub lex_step : Lex → ℕ → Emission
lex_step between c = between_step c
lex_step (in_string sofar s) c = string_move sofar (string_step s c)
lex_step (in_number sofar n) c = number_move sofar n (number_step n (kind_of c)) c
lex_step (in_word w rest) c = word_move w c rest

abbrev pub end_tokens : List ℕ → Bool → Option (List Token)
end_tokens sofar true = Some (token.Number sofar ∷ [])
end_tokens sofar false = None

abbrev pub lex_end : Lex → Option (List Token)
lex_end between = Some []
lex_end (in_string sofar s) = None
lex_end (in_number sofar n) = end_tokens sofar (number_ends n)
lex_end (in_word w rest) = None

abbrev pub prepend : List Token → Option (List Token) → Option (List Token)
prepend ts None = None
prepend ts (Some us) = Some (ts ++ us)

abbrev pub on_emission : Emission → (Lex → Option (List Token)) → Option (List Token)
on_emission None f = None
on_emission (Some (ts, l)) f = prepend ts (f l)

unfoldable pub lex : List ℕ → Lex → Option (List Token)
lex [] l = lex_end l
lex (c ∷ cs) l = on_emission (lex_step l c) (λ next. lex cs next)

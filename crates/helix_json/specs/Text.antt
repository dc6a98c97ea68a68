-- JSON text as its characters: RFC 8259, sections 2 and 7. No escape spells a lone surrogate.
use Rattle.std.specs.Prelude.{◌≡◌, ◌≢◌, ℕ, ◌+◌, ◌*◌, ◌-◌, ◌≤◌, ◌<◌, ◌==◌, ◌||◌, if◌then◌else◌, Bool, IsTrue, Option, Some, None, List, [], ◌∷◌, ◌++◌, codes}
use Rattle.std.specs.Char.{digit_value}
use Rattle.helix_json.specs.declared.value.Json.{Json}
use Rattle.helix_json.specs.declared.token.Token.{Token}
use Rattle.helix_json.specs.declared.token.Token.TheVariants as token
use Rattle.helix_json.specs.Numbers.{IsNumber}
use Rattle.helix_json.specs.Tokens.{tokens}

-- a blank is a space, a tab, a line feed or a carriage return
abbrev pub is_blank : ℕ → Bool
is_blank c = c == 32 || c == 9 || c == 10 || c == 13

-- each character is a blank
abbrev pub AreBlanks : List ℕ → Type 0
AreBlanks [] = Unit {0}
AreBlanks (c ∷ cs) = IsTrue (is_blank c) × AreBlanks cs

-- the character that a letter after a backslash means
abbrev pub escaped : ℕ → Option ℕ
escaped letter = if letter == 34 then Some 34 else if letter == 92 then Some 92 else if letter == 47 then Some 47
    else if letter == 98 then Some 8
    else if letter == 102 then Some 12 else if letter == 110 then Some 10 else if letter == 114 then Some 13
    else if letter == 116 then Some 9 else None

-- `\u` and four hexadecimal digits, in either case
abbrev pub SpellsUnit : List ℕ → ℕ → Type 0
SpellsUnit text unit = (a b c d : ℕ) × (text ≡ 92 ∷ 117 ∷ a ∷ b ∷ c ∷ d ∷ [])
    × (digit_value a < 16) × (digit_value b < 16) × (digit_value c < 16) × (digit_value d < 16)
    × (unit ≡ ((digit_value a * 16 + digit_value b) * 16 + digit_value c) * 16 + digit_value d)

-- the first half of a surrogate pair
abbrev pub IsHigh : ℕ → Type 0
IsHigh unit = (0xD800 ≤ unit) × (unit < 0xDC00)

-- the second half of a surrogate pair
abbrev pub IsLow : ℕ → Type 0
IsLow unit = (0xDC00 ≤ unit) × (unit < 0xE000)

-- how a character is written in a string
pub data How : Type 0 where
  itself : How
  by_letter : How
  by_unit : How
  by_pair : How

-- the text is the character, written in this way
abbrev pub SpellsAs : How → List ℕ → ℕ → Type 0
SpellsAs itself text c = (text ≡ c ∷ []) × (32 ≤ c) × (c ≢ 34) × (c ≢ 92)
SpellsAs by_letter text c = (letter : ℕ) × (text ≡ 92 ∷ letter ∷ []) × (escaped letter ≡ Some c)
SpellsAs by_unit text c = SpellsUnit text c × ¬ (IsHigh c) × ¬ (IsLow c)
SpellsAs by_pair text c = (first second : List ℕ) × (high low : ℕ) × (text ≡ first ++ second) × SpellsUnit first high
    × SpellsUnit second low
    × IsHigh high × IsLow low × (c ≡ 0x10000 + (high - 0xD800) * 0x400 + (low - 0xDC00))

-- the text between the quotes, character by character
abbrev pub SpellsChars : List ℕ → List ℕ → Type 0
SpellsChars text [] = text ≡ []
SpellsChars text (c ∷ cs) = (how : How) × (first rest : List ℕ) × (text ≡ first ++ rest) × SpellsAs how first c
    × SpellsChars rest cs

-- the text is the token
abbrev pub SpellsToken : List ℕ → Token → Type 0
SpellsToken text token.OpenList = text ≡ codes "["
SpellsToken text token.CloseList = text ≡ codes "]"
SpellsToken text token.OpenObject = text ≡ codes "{"
SpellsToken text token.CloseObject = text ≡ codes "}"
SpellsToken text token.Comma = text ≡ codes ","
SpellsToken text token.Colon = text ≡ codes ":"
SpellsToken text token.Null = text ≡ codes "null"
SpellsToken text token.True = text ≡ codes "true"
SpellsToken text token.False = text ≡ codes "false"
SpellsToken text (token.Number number) = (text ≡ number) × IsNumber number
SpellsToken text (token.Str string) = (inner : List ℕ) × (text ≡ 34 ∷ inner ++ 34 ∷ []) × SpellsChars inner string

-- a text is tokens one after the other, with blanks before, between and after them
abbrev pub Cuts : List ℕ → List Token → Type 0
Cuts text [] = AreBlanks text
Cuts text (first ∷ others) = (blanks piece rest : List ℕ) × (text ≡ blanks ++ (piece ++ rest))
    × AreBlanks blanks × SpellsToken piece first × Cuts rest others

-- a text spells the value with whose tokens it is written
abbrev pub SpellsText : List ℕ → Json → Type 0
SpellsText text value = Cuts text (tokens value)

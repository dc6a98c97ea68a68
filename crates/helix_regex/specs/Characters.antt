-- What a character may be in a pattern, and the sets that class escapes name.
use Rattle.std.specs.Prelude.{ℕ, ◌==◌, ◌&&◌, ◌||◌, not, nat_le, if◌then◌else◌, Bool, List, codes}
use Rattle.std.specs.List.{list_any}
use Rattle.helix_base.specs.Alphabet.{is_character_of}
use Rattle.helix_base.specs.Digits.{is_digit}
use Rattle.helix_base.specs.declared.alphabet.Alphabet.TheVariants.{Unicode}

-- a character of the Unicode alphabet
abbrev pub is_character : ℕ → Bool
is_character c = is_character_of Unicode c

-- the character is one of a list
abbrev pub is_among : List ℕ → ℕ → Bool
is_among marks c = list_any (λ mark. c == mark) marks

-- an ASCII letter
abbrev pub is_letter : ℕ → Bool
is_letter c = (nat_le 65 c && nat_le c 90) || (nat_le 97 c && nat_le c 122)

-- a literal is any character other than `\ ^ $ . | ? * + ( ) [ {`
abbrev pub is_literal : ℕ → Bool
is_literal c = is_character c && not (is_among (codes "\\^$.|?*+()[{") c)

-- after a backslash, a character from U+0021 to U+007E that is no letter and no digit means itself
abbrev pub is_punct : ℕ → Bool
is_punct c = (nat_le 33 c && nat_le c 126) && not (is_letter c || is_digit c)

-- after a backslash, these letters name a set
abbrev pub is_set_letter : ℕ → Bool
is_set_letter c = is_among (codes "dwsDWS") c

-- in a class, a character other than `\`, `[`, `]` and `-` means itself
abbrev pub is_class_char : ℕ → Bool
is_class_char c = is_character c && not (is_among (codes "\\[]-") c)

-- `\d`, `\w` and `\s`: the digits; letters, digits and `_`; the space
abbrev pub is_word : ℕ → Bool
is_word c = (is_letter c || is_digit c) || c == 95

-- the character is in the set that the letter names; a capital one names all other characters
abbrev pub set_has : ℕ → ℕ → Bool
set_has letter c = if letter == 100 then is_digit c
    else if letter == 119 then is_word c
    else if letter == 115 then c == 32
    else if letter == 68 then is_character c && not (is_digit c)
    else if letter == 87 then is_character c && not (is_word c)
    else is_character c && not (c == 32)

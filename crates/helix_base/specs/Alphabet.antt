-- The characters of the alphabets, as ranges of Unicode code points. No alphabet has a control character (U+0000 to
-- U+001F, U+007F to U+009F) or a surrogate (U+D800 to U+DFFF).
use Rattle.std.specs.Prelude.{ℕ, Bool, ◌&&◌, nat_le, IsTrue, List, [], ◌∷◌}
use Rattle.std.specs.List.{list_any}
use Rattle.helix_base.specs.declared.alphabet.Alphabet.{Alphabet}
use Rattle.helix_base.specs.declared.alphabet.Alphabet.TheVariants.{Basic, Latin, Unicode}

-- the ranges of an alphabet in ascending order, each as its first and its last code point
abbrev pub ranges_of : Alphabet → List (ℕ × ℕ)
ranges_of Basic = (0x20, 0x7E) ∷ []
ranges_of Latin = (0x20, 0x7E) ∷ (0xA0, 0xFF) ∷ []
ranges_of Unicode = (0x20, 0x7E) ∷ (0xA0, 0xD7FF) ∷ (0xE000, 0x10FFFF) ∷ []

-- from the first to the last code point of a range, both included
abbrev pub is_in_range : ℕ → ℕ × ℕ → Bool
is_in_range code range = nat_le range.0 code && nat_le code range.1

-- a character of an alphabet is a code point in one of its ranges
abbrev pub is_character_of : Alphabet → ℕ → Bool
is_character_of alphabet code = list_any (is_in_range code) (ranges_of alphabet)

-- the same, as a fact
abbrev pub IsCharacterOf : Alphabet → ℕ → Type 0
IsCharacterOf alphabet code = IsTrue (is_character_of alphabet code)

-- The tokens of a token's text, as a reader of JSON gives them.
use Rattle.std.specs.Prelude.{ℕ, List, [], ◌∷◌, ◌++◌, codes, map, encode_utf8_all}
use Rattle.hex.specs.Hex.{encode_lower}
use Rattle.json.specs.Token.{Token, begin_object, end_object, begin_array, end_array, key, string}

-- the strings of a row
abbrev pub string_tokens : List (List ℕ) → List Token
string_tokens strings = map (λ text. string (encode_utf8_all text)) strings

-- all that comes before them
abbrev pub head_tokens : List ℕ → List Token
head_tokens identity =
    begin_object ∷ key (codes "format") ∷ string (codes "helix-token-1") ∷ key (codes "identity")
    ∷ string (encode_lower identity) ∷ key (codes "row") ∷ begin_array ∷ []

-- all that comes after them
abbrev pub last_tokens : List Token
last_tokens = end_array ∷ end_object ∷ []

-- the whole
abbrev pub token_tokens : List ℕ → List (List ℕ) → List Token
token_tokens identity strings = head_tokens identity ++ (string_tokens strings ++ last_tokens)

-- the strings that a list of tokens begins with
abbrev pub first_strings : List Token → List (List ℕ)
first_strings (string text ∷ tokens) = text ∷ first_strings tokens
first_strings tokens = []

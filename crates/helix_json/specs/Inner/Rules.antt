-- What the searches after the scanner promise.
use Rattle.std.specs.Prelude.{◌≡◌, ℕ, List, ◌∷◌, ◌++◌, length}
use Rattle.helix_json.specs.declared.value.Json.{Json}
use Rattle.helix_json.specs.declared.token.Token.{Token}
use Rattle.helix_json.specs.Tokens.{tokens}
use Rattle.helix_json.specs.Broken.{First}

-- some value is written with these tokens
abbrev pub AreTokens : List Token → Type 0
AreTokens all = (value : Json) × (tokens value ≡ all)

-- the first token of which something holds, by its number
abbrev pub IsFirstAt : (List Token → Token → List Token → Type 0) → List Token → ℕ → Type 0
IsFirstAt P all i = (before : List Token) × (t : Token) × (rest : List Token) × First P all before t rest
    × (i ≡ length before)

-- it holds of none
abbrev pub HoldsNowhere : (List Token → Token → List Token → Type 0) → List Token → Type 0
HoldsNowhere P all = (before : List Token) (t : Token) (rest : List Token) → all ≡ before ++ t ∷ rest
    → ¬ (P before t rest)

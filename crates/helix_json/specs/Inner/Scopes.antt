-- Where the innermost list or object begins, token by token.
use Rattle.std.specs.Prelude.{◌≡◌, ℕ, ◌+◌, List, [], ◌∷◌, ◌++◌}
use Rattle.helix_json.specs.declared.token.Token.{Token}
use Rattle.helix_json.specs.declared.token.Token.TheVariants as token

abbrev pub Closes : Token → Type 0
Closes token.CloseList = Unit {0}
Closes token.CloseObject = Unit {0}
Closes _ = ⊥

-- the token with this number leads from inside of the innermost container, which starts there with the outer ones, to
-- the next one's
abbrev pub MovesScope : ℕ → Token → List ℕ → ℕ → List ℕ → ℕ → Type 0
MovesScope i token.OpenList outer start others next = (others ≡ outer ++ start ∷ []) × (next ≡ i + 1)
MovesScope i token.OpenObject outer start others next = (others ≡ outer ++ start ∷ []) × (next ≡ i + 1)
MovesScope i token.CloseList outer start others next = outer ≡ others ++ next ∷ []
MovesScope i token.CloseObject outer start others next = outer ≡ others ++ next ∷ []
MovesScope i _ outer start others next = (others ≡ outer) × (next ≡ start)

-- tokens begin with this key and its colon
abbrev pub BeginsWithKey : List Token → List ℕ → Type 0
BeginsWithKey all key = (more : List Token) × (all ≡ token.Str key ∷ token.Colon ∷ more)

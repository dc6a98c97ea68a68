-- What reading a text as tokens finds.
use Rattle.std.specs.Prelude.{◌≡◌, ℕ, List, ◌∷◌, ◌++◌, length, slice_index}
use Rattle.helix_json.specs.declared.token.Token.{Token}
use Rattle.helix_json.specs.declared.value.Json.{Json}
use Rattle.helix_json.specs.declared.scanned.Scan.{Scan}
use Rattle.helix_json.specs.declared.scanned.Scan.TheVariants as scan
use Rattle.helix_json.specs.Tokens.{tokens}
use Rattle.helix_json.specs.Text.{SpellsText}
use Rattle.helix_json.specs.Broken.{BeginsAt, IsJsonText}
use Rattle.helix_base.specs.Syntax.{IsSyntaxErrorAt}

-- these are the tokens of the value that a text spells, each with its offset
pub record AreTokensOf (text : List ℕ) (value : Json) (ts : List Token) (offsets : List ℕ) : Type 0 where
  pub spells : SpellsText text value
  pub are : tokens value ≡ ts
  pub each : length offsets ≡ length ts
  pub begin : (before : List Token) (t : Token) (rest : List Token) → ts ≡ before ++ t ∷ rest
      → BeginsAt text before t rest (slice_index offsets (length before))

-- the text spells a value, and these are its tokens; or its syntax error is there
abbrev pub IsScan : List ℕ → Scan → Type 0
IsScan text (scan.Tokens scanned) = (value : Json) × AreTokensOf text value scanned.tokens.items scanned.offsets.items
IsScan text (scan.SyntaxError count) = IsSyntaxErrorAt IsJsonText text count

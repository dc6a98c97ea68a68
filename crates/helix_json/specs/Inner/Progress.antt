-- What has been read of a text between two tokens.
use Rattle.std.specs.Prelude.{◌≡◌, ◌≤◌, ◌<◌, ℕ, Bool, true, false, Some, None, List, [], ◌∷◌, ◌++◌, length, take, drop, get_or}
use Rattle.helix_json.specs.declared.token.Token.{Token}
use Rattle.helix_json.specs.declared.need.Need.TheVariants as need
use Rattle.helix_json.specs.declared.need.TokenKind.{TokenKind}
use Rattle.helix_json.specs.declared.nest.Nest.{Nest}
use Rattle.helix_json.specs.declared.progress.Progress.{Progress}
use Rattle.helix_json.specs.declared.progress.Step.{Step}
use Rattle.helix_json.specs.declared.progress.Step.TheVariants as step_is
use Rattle.helix_json.specs.Text.{is_blank}
use Rattle.helix_json.specs.Broken.{IsJsonText}
use Rattle.helix_base.specs.Syntax.{IsViablePrefix, IsSyntaxErrorAt}
use Rattle.helix_json.specs.Inner.Lexer.{between, lex, prepend}
use Rattle.helix_json.specs.Inner.Machine.{Reading, value, step, run}
use Rattle.helix_json.specs.Inner.Need.{kind_of_token, need_of, containers}

-- the nest of a reading
abbrev pub Tracks : Nest → Reading → Type 0
Tracks nest r = (nest.need ≡ need_of r) × (nest.containers.items ≡ containers r)

-- whether a token of that kind may come there, and the nest after it
abbrev pub Allows : Nest → Nest → TokenKind → Bool → Type 0
Allows old new kind true = (r : Reading) (t : Token) → Tracks old r → kind_of_token t ≡ kind
    → (q : Reading) × (step r t ≡ Some q) × Tracks new q
Allows old new kind false = (r : Reading) (t : Token) → Tracks old r → kind_of_token t ≡ kind → step r t ≡ None

-- nothing is open after a value
abbrev pub IsWhole : Nest → Type 0
IsWhole nest = (nest.need ≡ need.After) × (nest.containers.items ≡ [])

-- the first `at` characters are tokens that lead to a reading, and the next character begins another
pub record IsReadTo (text : List ℕ) (at : ℕ) (ds : List Token) (r : Reading) : Type 0 where
  pub within : at ≤ length text
  pub alone : lex (take at text) between ≡ Some ds
  pub on : at < length text → (rest : List ℕ)
      → lex (take at text ++ get_or text at 0 ∷ rest) between ≡ prepend ds (lex (get_or text at 0 ∷ rest) between)
  pub leads : run (value []) ds ≡ Some r
  pub viable : IsViablePrefix IsJsonText (take at text)

-- after those tokens the next one begins there
pub record BeginsToken (text : List ℕ) (before : List Token) (offset : ℕ) : Type 0 where
  pub within : offset < length text
  pub alone : lex (take offset text) between ≡ Some before
  pub on : lex text between ≡ prepend before (lex (drop offset text) between)
  pub no_blank : is_blank (get_or text offset 0) ≡ false

-- each token begins at its offset
abbrev pub AllBegin : List ℕ → List Token → List Token → List ℕ → Type 0
AllBegin text before [] [] = Unit {0}
AllBegin text before [] (p ∷ ps) = ⊥
AllBegin text before (t ∷ ts) [] = ⊥
AllBegin text before (t ∷ ts) (p ∷ ps) = BeginsToken text before p × AllBegin text (before ++ t ∷ []) ts ps

-- what is kept between two tokens
pub record HoldsSoFar (text : List ℕ) (at : ℕ) (tokens : List Token) (offsets : List ℕ) (nest : Nest) : Type 0 where
  pub reading : Reading
  pub is_read : IsReadTo text at tokens reading
  pub tracks : Tracks nest reading
  pub begin : AllBegin text [] tokens offsets

abbrev pub HoldsSoFarAt : List ℕ → ℕ → Progress → Type 0
HoldsSoFarAt text at p = HoldsSoFar text at p.tokens.items p.offsets.items p.nest

-- where a token or a blank leads
abbrev pub GoesOn : List ℕ → ℕ → Progress → Step → Type 0
GoesOn text at new (step_is.On next) = (at < next) × HoldsSoFarAt text next new
GoesOn text at new (step_is.SyntaxError count) = IsSyntaxErrorAt IsJsonText text count

-- What reading one token finds.
use Rattle.std.specs.Prelude.{◌≡◌, ◌≢◌, ◌≤◌, ◌<◌, ◌+◌, ℕ, Some, None, List, [], ◌∷◌, ◌++◌, length, take, get_or, slice_range}
use Rattle.helix_json.specs.declared.token.Token.{Token}
use Rattle.helix_json.specs.declared.token.Token.TheVariants as token
use Rattle.helix_json.specs.declared.string.StringState.TheVariants as state
use Rattle.helix_json.specs.declared.digits.NumberState.{NumberState}
use Rattle.helix_json.specs.declared.lexeme.StringRead.{StringRead}
use Rattle.helix_json.specs.declared.lexeme.StringRead.TheVariants as read
use Rattle.helix_json.specs.Broken.{IsJsonText}
use Rattle.helix_base.specs.Syntax.{IsSyntaxErrorAt}
use Rattle.helix_json.specs.Inner.NumberSteps.{kind_of, number_step}
use Rattle.helix_json.specs.Inner.Lexer.{between, in_string, in_number}
use Rattle.helix_json.specs.Inner.Machine.{Reading, step}
use Rattle.helix_json.specs.Inner.Scan.{HasRead}

-- what a string whose characters begin at that offset does to a text that is read up to them
abbrev pub ReadsString : List ℕ → ℕ → StringRead → Type 0
ReadsString text from (read.Closes string end) = (from < end) × (end ≤ length text)
    × ((ds : List Token) (r q : Reading) → HasRead (take from text) ds r (in_string [] state.Plain)
    → step r (token.Str string) ≡ Some q
    → HasRead (take end text) (ds ++ token.Str string ∷ []) q between)
ReadsString text from (read.Stops count) = (ds : List Token) (r : Reading)
    → HasRead (take from text) ds r (in_string [] state.Plain) → IsSyntaxErrorAt IsJsonText text count

-- a number is read up to the first character that does not go on with it
pub record ReadsNumber (text : List ℕ) (from : ℕ) (first last : NumberState) (end : ℕ) : Type 0 where
  pub forth : from ≤ end
  pub within : end ≤ length text
  pub reads : (at : ℕ) (ds : List Token) (r : Reading) → at < from
      → HasRead (take from text) ds r (in_number (slice_range text at from) first)
      → HasRead (take end text) ds r (in_number (slice_range text at end) last)
  pub stops : end < length text → number_step last (kind_of (get_or text end 0)) ≡ None

-- `count` of the letters are there, and no more
pub record ReadsLetters (text : List ℕ) (from : ℕ) (letters : List ℕ) (count : ℕ) : Type 0 where
  pub few : count ≤ length letters
  pub within : from + count ≤ length text
  pub same : take (from + count) text ≡ take from text ++ take count letters
  pub stops : count < length letters → from + count < length text
      → get_or text (from + count) 0 ≢ get_or letters count 0

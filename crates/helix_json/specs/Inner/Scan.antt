-- What has been read of a text and not refused.
use Rattle.std.specs.Prelude.{◌≡◌, ◌≢◌, ℕ, Bool, true, Some, List, [], ◌++◌}
use Rattle.std.specs.Option.{is_some}
use Rattle.helix_json.specs.declared.token.Token.{Token}
use Rattle.helix_json.specs.declared.token.Token.TheVariants as token
use Rattle.helix_json.specs.Inner.StringSteps.{Fine}
use Rattle.helix_json.specs.Inner.Lexer.{Lex, between, in_string, in_number, in_word, word_token, lex, prepend}
use Rattle.helix_json.specs.Inner.Machine.{Reading, value, step, run}

-- whether the token that is being read may come there
abbrev pub may_go : Reading → Lex → Bool
may_go r between = true
may_go r (in_string sofar s) = is_some (step r (token.Str []))
may_go r (in_number sofar n) = is_some (step r (token.Number []))
may_go r (in_word w ws) = is_some (step r (word_token w))

-- the token that is being read can end
abbrev pub FineLex : Lex → Type 0
FineLex between = Unit {0}
FineLex (in_string sofar s) = Fine s
FineLex (in_number sofar n) = Unit {0}
FineLex (in_word w ws) = ws ≢ []

-- a prefix of a text is read as tokens that lead to a reading, and as the beginning of one that may come there
pub record HasRead (prefix : List ℕ) (ds : List Token) (r : Reading) (l : Lex) : Type 0 where
  pub reads : (rest : List ℕ) → lex (prefix ++ rest) between ≡ prepend ds (lex rest l)
  pub leads : run (value []) ds ≡ Some r
  pub goes : may_go r l ≡ true
  pub fine : FineLex l

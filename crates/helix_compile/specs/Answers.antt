-- The words that the automaton of a pattern accepts.
use Rattle.std.specs.Prelude.{ℕ, Bool, MatchBool, List}
use Rattle.helix_expr.specs.declared.regex.Regex.{Regex}
use Rattle.helix_expr.specs.Matching.{Matches, ContainsMatch}

-- the word matches as a whole or, where that is asked, contains a match with the pattern's anchors
abbrev pub Answers : Regex → Bool → List ℕ → Type 0
Answers regex containing word = MatchBool containing (ContainsMatch regex word) (Matches regex.expr word)

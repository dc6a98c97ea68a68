-- Where a word is cut. Only private clauses cite it.
use Rattle.std.specs.Prelude.{◌≡◌, ℕ, ◌+◌, ◌<◌, ◌≤◌, length, take, drop, List, [], ◌++◌, Bool, IsTrue, Option}
use Rattle.helix_expr.specs.declared.expr.Expr.{Expr}
use Rattle.helix_expr.specs.Matching.{Matches, Repeats}

-- cut here, the word is a word of a language and one that is joined from words of the language
abbrev pub SplitsAt : (List ℕ → Type 0) → ℕ → Option ℕ → ℕ → List ℕ → Type 0
SplitsAt Language least most cut word = Language (take cut word) × Repeats Language least most (drop cut word)

-- the same at some offset, after at least `shortest` characters
abbrev pub SplitsOff : (List ℕ → Type 0) → ℕ → Option ℕ → ℕ → List ℕ → Type 0
SplitsOff Language least most shortest word = (cut : ℕ) × (shortest ≤ cut) × (cut < length word + 1)
    × SplitsAt Language least most cut word

-- the word begins with a match, which is the whole word where the end is bound
abbrev pub BeginsMatch : Expr → Bool → List ℕ → Type 0
BeginsMatch expr at_end word = (prefix : List ℕ) × (rest : List ℕ) × (word ≡ prefix ++ rest) × Matches expr prefix
    × (IsTrue at_end → rest ≡ [])

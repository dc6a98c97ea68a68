-- What an expression matches: regular languages as textbooks define them, over words of code points.
use Rattle.std.specs.Prelude.{◌≡◌, ℕ, zero, suc, ◌≤◌, List, [], ◌∷◌, ◌++◌, ◌⊎◌, IsTrue, Option, MatchOption}
use Rattle.helix_base.specs.Ranges.{in_ranges}
use Rattle.helix_expr.specs.declared.expr.Expr.{Expr, Empty, Chars, Seq', Alt', Repeat', Row_of-Expr, end_of-Expr, more_of-Expr}
use Rattle.helix_expr.specs.declared.regex.Regex.{Regex}

-- the code lies in one of the ranges, ends included
abbrev pub InRanges : List (ℕ × ℕ) → ℕ → Type 0
InRanges ranges code = IsTrue (in_ranges ranges code)

-- the word is one character of the ranges
abbrev pub IsOneOf : List (ℕ × ℕ) → List ℕ → Type 0
IsOneOf ranges [] = ⊥
IsOneOf ranges (code ∷ []) = InRanges ranges code
IsOneOf ranges (first ∷ second ∷ word) = ⊥

-- the word is joined from this many words of a language
abbrev pub Joined : (List ℕ → Type 0) → ℕ → List ℕ → Type 0
Joined Language zero word = word ≡ []
Joined Language (suc count) word = (prefix : List ℕ) × (rest : List ℕ) × (word ≡ prefix ++ rest) × Language prefix
    × Joined Language count rest

-- the count is not above a greatest one, where there is one
abbrev pub UpTo : Option ℕ → ℕ → Type 0
UpTo most count = MatchOption most (Unit {0}) (λ limit. count ≤ limit)

-- the word is joined from a number of words of a language that is in the limits
abbrev pub Repeats : (List ℕ → Type 0) → ℕ → Option ℕ → List ℕ → Type 0
Repeats Language least most word = (count : ℕ) × (least ≤ count) × UpTo most count × Joined Language count word

abbrev mutual
  -- the expression matches the whole word
  pub Matches : Expr → List ℕ → Type 0
  Matches Empty word = word ≡ []
  Matches (Chars ranges) word = IsOneOf ranges word
  Matches (Seq' shape parts) word = MatchesInOrder parts word
  Matches (Alt' shape parts) word = MatchesSome parts word
  Matches (Repeat' pointer part least most) word = Repeats (λ w. MatchesSome part w) least most word

  -- the word splits into matches of the parts, in order
  pub MatchesInOrder : {m : _} → Row_of-Expr m → List ℕ → Type 0
  MatchesInOrder end_of-Expr word = word ≡ []
  MatchesInOrder (more_of-Expr part parts) word = (prefix : List ℕ) × (rest : List ℕ) × (word ≡ prefix ++ rest)
      × Matches part prefix × MatchesInOrder parts rest

  -- some part matches the whole word
  pub MatchesSome : {m : _} → Row_of-Expr m → List ℕ → Type 0
  MatchesSome end_of-Expr word = ⊥
  MatchesSome (more_of-Expr part parts) word = Matches part word ⊎ MatchesSome parts word

-- the word splits into matches of the expressions of a list, in order
abbrev pub MatchInOrder : List Expr → List ℕ → Type 0
MatchInOrder [] word = word ≡ []
MatchInOrder (part ∷ parts) word = (prefix : List ℕ) × (rest : List ℕ) × (word ≡ prefix ++ rest) × Matches part prefix
    × MatchInOrder parts rest

-- some expression of a list matches the whole word
abbrev pub MatchSome : List Expr → List ℕ → Type 0
MatchSome [] word = ⊥
MatchSome (part ∷ parts) word = Matches part word ⊎ MatchSome parts word

-- the word has a middle that matches, at its start or its end where an anchor says so
pub record ContainsMatch (regex : Regex) (word : List ℕ) : Type 0 where
  pub before : List ℕ
  pub middle : List ℕ
  pub after : List ℕ
  pub split : word ≡ before ++ (middle ++ after)
  pub match : Matches regex.expr middle
  pub from_start : IsTrue regex.at_start → before ≡ []
  pub to_end : IsTrue regex.at_end → after ≡ []

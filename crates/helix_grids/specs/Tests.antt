-- Which values of a ladder pass a list of tests, and the least of them.
use Rattle.std.specs.Prelude.{ℕ, ℤ, ◌<◌, ◌≤ℤ◌, List, Option, MatchOption}
use Rattle.std.specs.List.{All, Contains}
use Rattle.helix_ladders.specs.Scale.{Ladder, IsLeast}
use Rattle.helix_grids.specs.declared.test.GridTest.{GridTest}
use Rattle.helix_grids.specs.declared.test.GridTest.TheVariants as test

-- a value passes a test, on a ladder
abbrev pub Passes : Ladder → GridTest → ℤ → Type 0
Passes ladder (test.Least bound) v = bound ≤ℤ v
Passes ladder (test.Most bound) v = v ≤ℤ bound
Passes ladder (test.On level) v = ladder.IsOn level v
Passes ladder (test.Off level) v = ¬ ladder.IsOn level v
Passes ladder (test.OneOf members) v = Contains members v
Passes ladder (test.NoneOf others) v = ¬ Contains others v

-- the level that a test names, if any, is one of the ladder's
abbrev pub NamesLevelBelow : ℕ → GridTest → Type 0
NamesLevelBelow levels (test.On level) = level < levels
NamesLevelBelow levels (test.Off level) = level < levels
NamesLevelBelow levels (test.Least bound) = Unit {0}
NamesLevelBelow levels (test.Most bound) = Unit {0}
NamesLevelBelow levels (test.OneOf members) = Unit {0}
NamesLevelBelow levels (test.NoneOf others) = Unit {0}

-- a value of the ladder that is on a level and passes every test
pub record IsMember (ladder : Ladder) (level : ℕ) (tests : List GridTest) (v : ℤ) : Type 0 where
  pub from_low : ladder.low ≤ℤ v
  pub to_high : v ≤ℤ ladder.high
  pub on_level : ladder.IsOn level v
  pub passes : All (λ test. Passes ladder test v) tests

-- the answer to a question for the least number of a set: None exactly where the set is empty
abbrev pub IsLeastOf : (ℤ → Type 0) → Option ℤ → Type 0
IsLeastOf Has answer = MatchOption answer ((v : ℤ) → ¬ Has v) (IsLeast Has)

-- a ladder, a level of it and tests
pub record Tested (S : Type 0) : Type 0 where
  pub scale : S
  pub level : ℕ
  pub tests : List GridTest

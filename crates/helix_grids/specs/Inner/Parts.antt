-- What a test asks of a value, in three parts: of its window, that it isn't excluded, and that it is listed.
use Rattle.std.specs.Prelude.{ℕ, ℤ, ◌≤ℤ◌, List}
use Rattle.std.specs.List.{All, Contains}
use Rattle.helix_ladders.specs.Scale.{Ladder}
use Rattle.helix_grids.specs.declared.test.GridTest.{GridTest}
use Rattle.helix_grids.specs.declared.test.GridTest.TheVariants as test
use Rattle.helix_grids.specs.Inner.Window.{IsOfLevel}

-- a value passes a test on bounds and grids; each passes a set
abbrev pub IsInBounds : Ladder → GridTest → ℤ → Type 0
IsInBounds ladder (test.Least bound) v = bound ≤ℤ v
IsInBounds ladder (test.Most bound) v = v ≤ℤ bound
IsInBounds ladder (test.On level) v = ladder.IsOn level v
IsInBounds ladder (test.Off level) v = ¬ ladder.IsOn level v
IsInBounds ladder (test.OneOf members) v = Unit {0}
IsInBounds ladder (test.NoneOf others) v = Unit {0}

-- a value is none of the others of a test
abbrev pub IsSpared : GridTest → ℤ → Type 0
IsSpared (test.NoneOf others) v = ¬ Contains others v
IsSpared other v = Unit {0}

-- a value is one of the members of a test
abbrev pub IsListed : GridTest → ℤ → Type 0
IsListed (test.OneOf members) v = Contains members v
IsListed other v = Unit {0}

-- a value of a level that passes the tests on bounds and grids
abbrev pub IsBounded : Ladder → ℕ → List GridTest → ℤ → Type 0
IsBounded ladder level tests v = IsOfLevel ladder level v × All (λ test. IsInBounds ladder test v) tests

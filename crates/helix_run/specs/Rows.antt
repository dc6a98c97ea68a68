-- The rows of one boolean field: which are good, and in which order they are.
use Rattle.std.specs.Prelude.{◌≡◌, Bool, true, false, ◌⊎◌, ◌↔◌, List, [], ◌∷◌, Option, Some, None, IsTrue, Contains, ⊤}
use Rattle.helix_run.specs.Profile.{Field}

-- a truth value, or null
abbrev pub Flag : Type 0
Flag = Option Bool

-- every truth value is in the universe of a boolean field, and null where the field is nullable
abbrev pub IsFlagOf : Field → Flag → Type 0
IsFlagOf field (Some value) = ⊤
IsFlagOf field None = IsTrue field.nullable

-- a good row has one cell, which is one of the field's
pub record IsFlagRow (field : Field) (row : List Flag) : Type 0 where
  pub cell : Flag
  pub alone : row ≡ cell ∷ []
  pub allowed : IsFlagOf field cell

-- false before true, and null last
abbrev pub FlagLess : Flag → Flag → Type 0
FlagLess (Some false) (Some true) = ⊤
FlagLess (Some value) None = ⊤
FlagLess _ _ = ⊥

-- rows are ordered by their first cells that differ
abbrev pub FlagRowLess : List Flag → List Flag → Type 0
FlagRowLess (a ∷ row) (b ∷ other) = FlagLess a b ⊎ ((a ≡ b) × FlagRowLess row other)
FlagRowLess _ _ = ⊥

-- each row is below all later ones
abbrev pub IsBelowAll : List Flag → List (List Flag) → Type 0
IsBelowAll row [] = ⊤
IsBelowAll row (other ∷ rows) = FlagRowLess row other × IsBelowAll row rows

-- each row is below all that follow it
abbrev pub AreAscendingFlags : List (List Flag) → Type 0
AreAscendingFlags [] = ⊤
AreAscendingFlags (row ∷ rows) = IsBelowAll row rows × AreAscendingFlags rows

-- the answer list: the good rows, each once, in ascending order
pub record IsFlagAnswer (field : Field) (rows : List (List Flag)) : Type 0 where
  pub ascending : AreAscendingFlags rows
  pub members : (row : List Flag) → Contains rows row ↔ IsFlagRow field row

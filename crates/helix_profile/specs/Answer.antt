-- The answer list of a set of rows, such as the good rows of a profile, and its pieces above a row.
use Rattle.std.specs.Prelude.{◌≡◌, List, [], ◌∷◌, Option, None, Some, ◌⊎◌, ◌↔◌}
use Rattle.std.specs.List.{AllByRecursion}
use Rattle.helix_values.specs.Order.{RowLess}
use Rattle.helix_values.specs.declared.cell.Cell.{Cell}
use Rattle.helix_profile.specs.Content.{Content}
use Rattle.helix_profile.specs.Good.{IsGood}

-- strictly ascending: each row is below all that follow it
abbrev pub IsAscending : List (List Cell) → Type 0
IsAscending [] = Unit {0}
IsAscending (row ∷ rows) = AllByRecursion (RowLess row) rows × IsAscending rows

-- the row is one of the list
abbrev pub IsAmong : List (List Cell) → List Cell → Type 0
IsAmong [] row = ⊥
IsAmong (first ∷ rows) row = (first ≡ row) ⊎ IsAmong rows row

-- above a row, which needn't be good; every row is above nothing
abbrev pub IsAbove : Option (List Cell) → List Cell → Type 0
IsAbove None row = Unit {0}
IsAbove (Some start) row = RowLess start row

-- the list isn't empty, and its last row isn't below this one
abbrev pub ReachesTo : List (List Cell) → List Cell → Type 0
ReachesTo [] row = ⊥
ReachesTo (last ∷ []) row = ¬ RowLess last row
ReachesTo (first ∷ second ∷ rows) row = ReachesTo (second ∷ rows) row

-- the answer list of a set of rows: exactly those rows, in strictly ascending order
pub record IsAnswerOf (Good : List Cell → Type 0) (rows : List (List Cell)) : Type 0 where
  pub ascending : IsAscending rows
  pub members : (row : List Cell) → IsAmong rows row ↔ Good row

-- its rest above a row or nothing: exactly the rows of the set above it, in strictly ascending order
pub record IsRestOf (Good : List Cell → Type 0) (start : Option (List Cell)) (rows : List (List Cell)) : Type 0 where
  pub ascending : IsAscending rows
  pub members : (row : List Cell) → IsAmong rows row ↔ (Good row × IsAbove start row)

-- A prefix of that rest: rows of the set above the start in strictly ascending order, of which none is left out
-- before the last. So the empty list is one.
pub record IsPrefixOf (Good : List Cell → Type 0) (start : Option (List Cell)) (rows : List (List Cell)) : Type 0 where
  pub ascending : IsAscending rows
  pub good : (row : List Cell) → IsAmong rows row → Good row × IsAbove start row
  pub none_left_out : (row : List Cell) → Good row → IsAbove start row → ReachesTo rows row → IsAmong rows row

-- the answer list of a profile: that of its good rows
abbrev pub IsAnswer : Content → List (List Cell) → Type 0
IsAnswer profile rows = IsAnswerOf (IsGood profile) rows

-- the rest of its good rows above a row or nothing
abbrev pub IsRest : Content → Option (List Cell) → List (List Cell) → Type 0
IsRest profile start rows = IsRestOf (IsGood profile) start rows

-- a prefix of that rest
abbrev pub IsPrefix : Content → Option (List Cell) → List (List Cell) → Type 0
IsPrefix profile start rows = IsPrefixOf (IsGood profile) start rows

-- The rows that a run writes: the good rows above a start, up to a limit.
use Rattle.std.specs.Prelude.{◌≡◌, ℕ, ◌≤◌, List, length, Option, MatchBool, Bool}
use Rattle.helix_profile.specs.Answer.{IsAbove, IsPrefix, IsRest}
use Rattle.helix_profile.specs.Content.{Content}
use Rattle.helix_profile.specs.Good.{IsGood}
use Rattle.helix_values.specs.declared.cell.Cell.{Cell}
use Rattle.helix_walk.specs.NextRows.{end_of}

-- they are all good rows above the start, and no more than the limit
pub record IsWhole (profile : Content) (start : Option (List Cell)) (limit : ℕ) (rows : List (List Cell)) : Type 0 where
  pub rest : IsRest profile start rows
  pub few : length rows ≤ limit

-- they are the first ones, as many as the limit, and a further good row is above the last of them
pub record IsCut (profile : Content) (start : Option (List Cell)) (limit : ℕ) (rows : List (List Cell)) : Type 0 where
  pub prefix : IsPrefix profile start rows
  pub full : length rows ≡ limit
  pub further : List Cell
  pub good : IsGood profile further
  pub above : IsAbove (end_of start rows) further

-- they are cut, or whole
abbrev pub AreRows : Content → Option (List Cell) → ℕ → List (List Cell) → Bool → Type 0
AreRows profile start limit rows cut =
    MatchBool cut (IsCut profile start limit rows) (IsWhole profile start limit rows)

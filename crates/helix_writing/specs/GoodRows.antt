-- A place among the good rows of a profile.
use Rattle.std.specs.Prelude.{◌≡◌, List, Option, Some, Bool, MatchBool, refl}
use Rattle.std.specs.Coded.{Coded, code_by, coded×, coded_list, coded_option}
use Rattle.helix_profile.specs.Answer.{IsAbove}
use Rattle.helix_profile.specs.Content.{Content}
use Rattle.helix_profile.specs.Good.{IsGood}
use Rattle.helix_rows.specs.Parts.{IsNextRow}
use Rattle.helix_profile.specs.contracts.profile.Profile.{the_row as profile_row}
use Rattle.helix_values.specs.contracts.cell.Cell.{the_row as cell_row}
use Rattle.helix_values.specs.declared.cell.Cell.{Cell}

-- a profile, and a row or nothing: the good rows above it are those to come
pub record Place : Type 0 where
  pub profile : Content
  pub row : Option (List Cell)

-- no good row is above a row or nothing
abbrev pub NoneAbove : Content → Option (List Cell) → Type 0
NoneAbove profile start = (row : List Cell) → IsGood profile row → ¬ IsAbove start row

-- The place is the least good row above a start, which is this row; or there is none.
abbrev pub IsFirstAbove : Place → Option (List Cell) → List Cell → Bool → Type 0
IsFirstAbove place start row there = MatchBool there
    ((place.row ≡ Some row) × IsNextRow (IsGood place.profile) start row)
    (NoneAbove place.profile start)

-- how a place is stored
abbrev pub place_code : Coded Place
place_code = code_by (Content × Option (List Cell)) (coded× profile_row.coded (coded_option (coded_list cell_row.coded)))
    (λ place. (place.profile, place.row)) (λ parts. record { profile = parts.0; row = parts.1 }) (λ _. refl)

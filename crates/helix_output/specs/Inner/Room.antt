-- Room for the longest line.
use Rattle.std.specs.Prelude.{◌≡◌, ℕ, suc, ◌+◌, ◌*◌, ◌≤◌, List, [], ◌∷◌, length, map}
use Rattle.helix_profile.specs.declared.field.Field.{Field}
use Rattle.helix_output.specs.Csv.{csv_head_line}
use Rattle.helix_output.specs.JsonLines.{json_name}

-- a text of 1,000 characters of 4 bytes in quotes, the longest cell there is
abbrev pub longest_cell : ℕ
longest_cell = 4002

-- the same with a comma
abbrev pub cell_room : ℕ
cell_room = 4003

-- a line of so many cells ends by there, with room for three bytes more
abbrev pub line_room : ℕ → ℕ
line_room cells = cell_room * cells + 3

-- each end leaves room for the cells after it: that of number k is within the room of k + 1 cells
abbrev pub AreShort : ℕ → List ℕ → Type 0
AreShort cells [] = Unit {0}
AreShort cells (at ∷ ends) = (at ≤ cell_room * suc cells) × AreShort (suc cells) ends

-- what a line buffer may rely on: its texts are those of the fields, and it has room
pub record IsReady (fields : List Field) (head : List ℕ) (names : List (List ℕ)) (ends : List ℕ)
    (room capacity ends_capacity : ℕ) : Type 0 where
  pub head_is : head ≡ csv_head_line fields
  pub names_are : names ≡ map json_name fields
  pub ends_short : AreShort 0 ends
  pub head_fits : length head ≤ room
  pub line_fits : line_room (length fields) ≤ room
  pub room_is : room ≤ capacity
  pub ends_fit : length fields ≤ ends_capacity

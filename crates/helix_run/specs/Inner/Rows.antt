-- Rows of one cell.
use Rattle.std.specs.Prelude.{List, [], ◌∷◌, map}
use Rattle.helix_run.specs.Rows.{Flag}

-- one row a cell
abbrev pub rows_of : List Flag → List (List Flag)
rows_of cells = map (λ cell. cell ∷ []) cells

-- A row's line, part by part.
use Rattle.std.specs.Prelude.{◌≡◌, ℕ, zero, suc, List, [], ◌∷◌, get_or}
use Rattle.helix_output.specs.Csv.{joined}
use Rattle.helix_output.specs.Line.{ends_from}

-- a comma before each part but that of number 0
abbrev pub comma_before : ℕ → List ℕ
comma_before zero = []
comma_before (suc i) = 44 ∷ []

-- where the first parts of a line end
abbrev pub end_of : ℕ → List ℕ → ℕ
end_of zero ends = 0
end_of (suc n) ends = get_or ends n 0

-- bytes and ends are those of some parts, joined
pub record AreJoined (parts : List (List ℕ)) (bytes ends : List ℕ) : Type 0 where
  pub bytes_are : bytes ≡ joined parts
  pub ends_are : ends ≡ ends_from 0 parts

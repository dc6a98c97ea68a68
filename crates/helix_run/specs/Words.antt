-- The words of the command line.
use Rattle.std.specs.Prelude.{ℕ, ◌&&◌, ◌||◌, if◌then◌else◌, List, [], ◌∷◌, length, ◌==◌, Option, Some, None, bytes_eq, codes}

-- the names that the words give: of the profile file and of the output
pub record Names : Type 0 where
  pub profile : List ℕ
  pub output : List ℕ

-- a name may not be empty, and the output may not be the profile file
abbrev pub order_from : List ℕ → List ℕ → Option Names
order_from profile output =
    if (length profile == 0 || length output == 0) || bytes_eq profile output then None
    else Some (record { profile = profile; output = output })

-- the words are `--profile-file A` and `--output-path B`, in either order
abbrev pub order_of : List (List ℕ) → Option Names
order_of (first ∷ a ∷ second ∷ b ∷ []) =
    if bytes_eq first (codes "--profile-file") && bytes_eq second (codes "--output-path") then order_from a b
    else if bytes_eq first (codes "--output-path") && bytes_eq second (codes "--profile-file") then order_from b a
    else None
order_of _ = None

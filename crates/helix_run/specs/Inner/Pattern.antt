-- How the bytes after a pattern are found, and where they are settled.
use Rattle.std.specs.Prelude.{ℕ, Bool, true, not, ◌||◌, ◌&&◌, if◌then◌else◌, List, [], ◌∷◌, ◌==◌, Option, Some, None}
use Rattle.helix_run.specs.Profile.{is_space}

-- the bytes from the first that isn't blank
abbrev pub after_blanks : List ℕ → List ℕ
after_blanks [] = []
after_blanks (byte ∷ bytes) = if is_space byte then after_blanks bytes else byte ∷ bytes

-- what is after the pattern
abbrev pub after : List ℕ → List ℕ → Option (List ℕ)
after [] bytes = Some bytes
after (expected ∷ pattern) [] = if expected == 32 then after pattern [] else None
after (expected ∷ pattern) (byte ∷ bytes) =
    if expected == 32 then after pattern (after_blanks (byte ∷ bytes))
    else if byte == expected then after pattern bytes
    else None

-- the first of these bytes, and then of the rest, is no blank
abbrev pub begins_settled : List ℕ → List ℕ → Bool
begins_settled (byte ∷ pattern) rest = not (is_space byte)
begins_settled [] (byte ∷ rest) = not (is_space byte)
begins_settled [] [] = true

-- after each space of the pattern comes no blank, so that it is settled where the blanks end
abbrev pub is_settled : List ℕ → List ℕ → Bool
is_settled [] rest = true
is_settled (expected ∷ pattern) rest = (not (expected == 32) || begins_settled pattern rest) && is_settled pattern rest

-- The positions of a pattern, added up over its tokens. Only the crate's private clauses cite it.
use Rattle.std.specs.Prelude.{ℕ, ◌+◌, ◌*◌, min, max, Option, Some, None, List, [], ◌∷◌}
use Rattle.helix_regex.specs.declared.token.Token.{Token}
use Rattle.helix_regex.specs.declared.token.Token.TheVariants as token

-- a number as far as it matters
abbrev pub cap : ℕ → ℕ
cap n = min n 5001

abbrev pub repeats : ℕ → Option ℕ → ℕ
repeats least (Some most) = most
repeats least None = max least 1

-- the positions of tokens, where those before each open group are listed, the innermost first, and those of the last
-- piece are kept apart
abbrev pub total : List ℕ → ℕ → ℕ → List Token → ℕ
total outer sum last [] = cap (sum + last)
total outer sum last (token.Literal c ∷ ts) = total outer (cap (sum + last)) 1 ts
total outer sum last (token.Dot ∷ ts) = total outer (cap (sum + last)) 1 ts
total outer sum last (token.Set c ∷ ts) = total outer (cap (sum + last)) 1 ts
total outer sum last (token.ClassEnd ∷ ts) = total outer (cap (sum + last)) 1 ts
total outer sum last (token.Repeat least most at ∷ ts) = total outer sum (cap (last * repeats least most)) ts
total outer sum last (token.Open ∷ ts) = total (cap (sum + last) ∷ outer) 0 0 ts
total [] sum last (token.Close ∷ ts) = total [] sum last ts
total (before ∷ outer) sum last (token.Close ∷ ts) = total outer before (cap (sum + last)) ts
total outer sum last (t ∷ ts) = total outer sum last ts

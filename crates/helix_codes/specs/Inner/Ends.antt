-- Where the steps of the machine end.
use Rattle.std.specs.Prelude.{ℕ, ◌≡◌, ◌≤◌, ◌⊎◌}

-- at a code up to `Z` (90), or at the last one of 32 bits
abbrev pub IsStepEnd : ℕ → Type 0
IsStepEnd last = (last ≤ 90) ⊎ (last ≡ 4294967295)

-- The ends of the ranges that states read.
use Rattle.std.specs.Prelude.{◌≡◌, ◌⊎◌, ℕ, ◌+◌, ◌≤◌, List, [], ◌∷◌, ◌++◌, All, Contains}
use Rattle.helix_expr.specs.declared.expr.Expr.{Expr}
use Rattle.helix_compile.specs.ExprRanges.{expr_ranges}
use Rattle.helix_compile.specs.declared.nfa.State.{State}
use Rattle.helix_compile.specs.declared.nfa.State.TheVariants.{Accept, AcceptAll, Fail, Read, Split}

-- each range of one list is in another
abbrev pub AreAmong : List (ℕ × ℕ) → List (ℕ × ℕ) → Type 0
AreAmong ranges all = (range : ℕ × ℕ) → Contains ranges range → Contains all range

-- each range that the state reads is one of these
abbrev pub ReadsOnly : List (ℕ × ℕ) → State → Type 0
ReadsOnly all Accept = Unit {0}
ReadsOnly all AcceptAll = Unit {0}
ReadsOnly all Fail = Unit {0}
ReadsOnly all (Read ranges next) = AreAmong ranges all
ReadsOnly all (Split one other) = Unit {0}

-- each range that a state of a list reads is one of these
abbrev pub ReadsAmong : List State → List (ℕ × ℕ) → Type 0
ReadsAmong nfa all = All (λ state. ReadsOnly all state) nfa

-- the code is the last one of a range or the one before its first, or no character is above it
abbrev pub IsRangeEnd : ℕ × ℕ → ℕ → Type 0
IsRangeEnd range last = (0x10FFFF ≤ last) ⊎ ((last ≡ range.1) ⊎ (last + 1 ≡ range.0))

-- the same, of one of several ranges
abbrev pub IsEndAmong : List (ℕ × ℕ) → ℕ → Type 0
IsEndAmong ranges last = (0x10FFFF ≤ last) ⊎ ((range : ℕ × ℕ) × Contains ranges range × IsRangeEnd range last)

-- the same, of whichever ranges have all that the states read
abbrev pub IsNfaEnd : List State → ℕ → Type 0
IsNfaEnd nfa last = (all : List (ℕ × ℕ)) → ReadsAmong nfa all → IsEndAmong all last

-- the ranges of the expressions of a list
abbrev pub ranges_of_each : List Expr → List (ℕ × ℕ)
ranges_of_each [] = []
ranges_of_each (part ∷ parts) = expr_ranges part ++ ranges_of_each parts

-- what the new states read, beyond what the old ones do, is among these ranges
abbrev pub ReadsMore : List State → List State → List (ℕ × ℕ) → Type 0
ReadsMore old new ranges = (all : List (ℕ × ℕ)) → AreAmong ranges all → ReadsAmong old all → ReadsAmong new all

-- The parts of a pattern as its automaton has them.
use Rattle.std.specs.Prelude.{◌≡◌, ℕ, Bool, true, false, ◌&&◌, not, List, [], ◌∷◌, ◌++◌}
use Rattle.helix_expr.specs.declared.regex.Regex.{Regex}
use Rattle.helix_expr.specs.Matching.{Matches, IsOneOf}
use Rattle.helix_compile.specs.declared.nfa.State.{State}
use Rattle.helix_compile.specs.declared.nfa.State.TheVariants.{Accept, AcceptAll}
use Rattle.helix_compile.specs.Inner.Repeats.{AnyNumber}

-- every character is in these ranges
abbrev pub any_character : List (ℕ × ℕ)
any_character = (0x20, 0x10FFFF) ∷ []

-- before a match: nothing where an anchor binds, and else any characters
abbrev pub Before : Bool → List ℕ → Type 0
Before true word = word ≡ []
Before false word = AnyNumber (IsOneOf any_character) word

-- a match and, where it may be contained in a word, what may be before it
abbrev pub MatchEnds : Regex → Bool → List ℕ → Type 0
MatchEnds regex false word = Matches regex.expr word
MatchEnds regex true word = (before : List ℕ) × (middle : List ℕ) × (word ≡ before ++ middle)
    × Before regex.at_start before × Matches regex.expr middle

-- anything may follow a match
abbrev pub is_open : Regex → Bool → Bool
is_open regex containing = containing && not regex.at_end

-- the state that accepts what may follow a match
abbrev pub end_state : Bool → State
end_state true = AcceptAll
end_state false = Accept

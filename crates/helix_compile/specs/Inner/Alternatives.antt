-- Alternatives of which those that are one character are gathered.
use Rattle.std.specs.Prelude.{ℕ, ◌⊎◌, ◌↔◌, List}
use Rattle.helix_expr.specs.declared.expr.Expr.{Expr}
use Rattle.helix_expr.specs.Matching.{MatchSome, IsOneOf}
use Rattle.helix_compile.specs.declared.nfa.State.{State}
use Rattle.helix_compile.specs.Inner.Nfa.{Grows, Builds}

-- some of the alternatives have been built, and the others are one character of the ranges
pub record AreAlternatives (start nfa : List State) (first : ℕ) (ranges : List (ℕ × ℕ)) (alternatives : List Expr)
    (next : ℕ) : Type 0 where
  pub grows : Grows start nfa
  pub built : List Expr
  pub builds : Builds start nfa first (MatchSome built) next
  pub are : (word : List ℕ) → MatchSome alternatives word ↔ (MatchSome built word ⊎ IsOneOf ranges word)

-- Automata of which no state accepts.
use Rattle.std.proofs.Common.{◌≡◌, ◌≢◌, ℕ, ◌+◌, ◌≤◌, ◌<◌, Bool, true, false, Some, List, [], ◌∷◌, length, sym, ◌∙◌, subst, arith, ⊎_elim}
use Rattle.std.specs.List.{All, slice_get}
use Rattle.std.proofs.lemmas.Bool.{cases_lt}
use Rattle.helix_automata.proofs.Finding.{leads_within}
use Rattle.helix_automata.specs.Automaton.{Automaton, arcs_of, AcceptsFrom}
use Rattle.helix_automata.specs.Shape.{AreArcs}
use Rattle.helix_automata.specs.declared.arc.Arc.{Arc}

-- the states below a number lead to states, and none of them accepts
abbrev pub AreDeadBelow : Automaton → ℕ → Type 0
AreDeadBelow dfa n = (k : ℕ) → k < n
    → All (λ arc. arc.to < length dfa.moves) (arcs_of dfa k) × (slice_get dfa.accepting k ≢ Some true)

pub dead_more : (dfa : Automaton) (state states : ℕ) (arcs : List Arc) (flag : Bool) → states ≡ length dfa.moves
    → state < states → arcs ≡ arcs_of dfa state → AreArcs (length dfa.moves) arcs
    → slice_get dfa.accepting state ≡ Some flag → flag ≡ false → AreDeadBelow dfa state → AreDeadBelow dfa (state + 1)
dead_more dfa state states arcs flag number within value shape at off so_far k below =
    ⊎_elim (so_far k) here (cases_lt k state)
  where
    here : state ≤ k → All (λ arc. arc.to < length dfa.moves) (arcs_of dfa k) × (slice_get dfa.accepting k ≢ Some true)
    here reached =
        let same : state ≡ k = omega (arith, reached, below) in
        subst (λ j. All (λ arc. arc.to < length dfa.moves) (arcs_of dfa j) × (slice_get dfa.accepting j ≢ Some true))
        same (
          subst (All (λ arc. arc.to < length dfa.moves)) value shape.named,
          λ on. let both : Some flag ≡ Some true = sym at ∙ on in cc,
        )

-- no word leads to a state that accepts
pub none_from : (dfa : Automaton) → AreDeadBelow dfa (length dfa.moves) → (word : List ℕ) (state : ℕ)
    → state < length dfa.moves → AcceptsFrom dfa state word → ⊥
none_from dfa dead [] state within accepts = (dead state within).1 accepts
none_from dfa dead (code ∷ word) state within (next, leads, rest) =
    none_from dfa dead word next
    (leads_within (length dfa.moves) (arcs_of dfa state) code next (dead state within).0 leads) rest

-- Pairs of states of two automata.
use Rattle.std.proofs.Common.{◌≡◌, ◌↔◌, ℕ, ◌<◌, ◌≤◌, min, Some, List, ◌∷◌, length, ap, arith, sym, ◌∙◌, subst}
use Rattle.std.proofs.lemmas.Option.{same_Some}
use Rattle.helix_automata.specs.declared.arc.Arc.{Arc}
use Rattle.helix_automata.specs.Automaton.{Automaton, target, arcs_of, AcceptsFrom}
use Rattle.helix_automata.specs.Shape.{IsCharacter}
use Rattle.helix_automata.specs.Machine.{LeadsOn}

-- the words that both accept, each from its state of the pair
abbrev pub PairWords : Automaton → Automaton → ℕ × ℕ → List ℕ → Type 0
PairWords left right pair word = AcceptsFrom left pair.0 word × AcceptsFrom right pair.1 word

abbrev pub ArePair : Automaton → Automaton → ℕ × ℕ → Type 0
ArePair left right pair = (pair.0 < length left.moves) × (pair.1 < length right.moves)

-- after a character that leads to one state
pub leads_one : (automaton : Automaton) (state code next : ℕ) → target (arcs_of automaton state) code ≡ Some next
    → (word : List ℕ)
    → AcceptsFrom automaton next word ↔ AcceptsFrom automaton state (code ∷ word)
leads_one automaton state code next leads word = (
  (λ h. (next, leads, h)),
  (λ h. subst (λ n. AcceptsFrom automaton n word) (same_Some h.0 next (sym h.1 ∙ leads)) h.2),
)

-- a pair leads to the pair of the states to which its two lead
pub pair_leads : (left right : Automaton) (pair : ℕ × ℕ) (left_arcs right_arcs : List Arc)
    (first left_last right_last last left_to right_to : ℕ)
    → left_arcs ≡ arcs_of left pair.0 → right_arcs ≡ arcs_of right pair.1 → first ≤ left_last → first ≤ right_last
    → last ≡ min left_last right_last → left_to < length left.moves → right_to < length right.moves
    → ((code : ℕ) → IsCharacter code → first ≤ code → code ≤ left_last → target left_arcs code ≡ Some left_to)
    → ((code : ℕ) → IsCharacter code → first ≤ code → code ≤ right_last → target right_arcs code ≡ Some right_to)
    → LeadsOn (ArePair left right) (PairWords left right) pair first last (left_to, right_to)
pair_leads left right pair left_arcs right_arcs first left_last right_last last left_to right_to left_are right_are
    left_reaches right_reaches is left_in right_in left_leads right_leads = record {
      reached = omega (arith, left_reaches, right_reaches, is);
      is_state = (left_in, right_in);
      leads = λ code character low high word.
          let one = leads_one left pair.0 code left_to (ap (λ l. target l code) (sym left_are)
          ∙ left_leads code character low (omega (arith, high, is))) word in
          let other = leads_one right pair.1 code right_to (ap (λ l. target l code) (sym right_are)
          ∙ right_leads code character low (omega (arith, high, is))) word in
          ((λ h. (one.0 h.0, other.0 h.1)), (λ h. (one.1 h.0, other.1 h.1)));
    }

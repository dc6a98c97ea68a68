-- From each state each character leads on.
use Rattle.std.proofs.Common.{ℕ, ◌<◌, [], length, arith}
use Rattle.helix_automata.specs.Automaton.{Automaton, arcs_of, Leads}
use Rattle.helix_automata.specs.Shape.{IsCharacter, IsWellFormed}
use Rattle.helix_automata.proofs.Finding.{leads_within}

pub record MovesOn (automaton : Automaton) (state code : ℕ) : Type 0 where
  pub next : ℕ
  pub leads : Leads automaton state code next
  pub within : next < length automaton.moves

pub moves_on : (automaton : Automaton) → IsWellFormed automaton → (state code : ℕ) → state < length automaton.moves
    → IsCharacter code → MovesOn automaton state code
moves_on automaton shape state code in_states character =
    let are = shape.rows state [] in_states in
    let (next, leads) = are.lead_on code character (omega arith) in
    record {
      next = next;
      leads = leads;
      within = leads_within (length automaton.moves) (arcs_of automaton state) code next are.named leads;
    }

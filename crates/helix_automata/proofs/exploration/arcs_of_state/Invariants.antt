use Rattle.helix_automata.proofs.FewArcs.{StaysFew}
use Rattle.helix_automata.proofs.StateArcs.{Walked, codes_left}
use Rattle.helix_automata.proofs.exploration.arcs_of_state.Given as goal

abbrev pub invariant-loop-first : goal.invariant-loop-first
invariant-loop-first g l = record {
  walked : Walked (g.M.Machine.IsState l.machine) (g.M.Machine.Words l.machine) l.number l.initial.states l.states
      l.row;
  few : StaysFew (g.M.Machine.IsEnd l.machine) l.number l.initial.states l.row;
}

abbrev pub decreases-loop-first : goal.decreases-loop-first
decreases-loop-first g l = codes_left l.row.next

use Rattle.helix_automata.proofs.Explored.{Made}
use Rattle.helix_automata.proofs.FewArcs.{EachHasFew}
use Rattle.helix_automata.proofs.exploration.explore.Given as goal

abbrev pub invariant-loop-done : goal.invariant-loop-done
invariant-loop-done g l = record {
  made : Made (g.M.Machine.IsState l.machine) (g.M.Machine.Words l.machine) l.fn.start l.states l.moves l.flags l.done;
  few : EachHasFew (g.M.Machine.IsState l.machine) (g.M.Machine.IsEnd l.machine) l.moves;
}

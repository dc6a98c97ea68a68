use Rattle.std.proofs.Common.{length}
use Rattle.helix_automata.proofs.dfa.Dfa.step.Goals as goal

pub returns-clause-within : goal.returns-clause-within
returns-clause-within c = c.arc_of.ensures.named (length c.args.self.now.moves) c.arcs.ensures.shape

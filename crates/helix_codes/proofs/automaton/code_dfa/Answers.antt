use Rattle.helix_codes.specs.Inner.Completed.{IsPrefixOrNone}
use Rattle.helix_codes.proofs.FewArcs.{few_arcs}
use Rattle.helix_codes.proofs.automaton.code_dfa.Goals as goal

pub returns-clause-arcs : goal.returns-clause-arcs
returns-clause-arcs c = few_arcs c.explore.result (IsPrefixOrNone c.args.code) c.explore.ensures.arcs

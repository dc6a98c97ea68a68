use Rattle.std.proofs.Common.{◌∙◌, take, ap, arith}
use Rattle.std.proofs.lemmas.List.{take_all}
use Rattle.helix_automata.specs.Automaton.{most_in}
use Rattle.helix_automata.proofs.Greatest.{most_is}
use Rattle.helix_automata.proofs.dfa.Dfa.range_ends.Goals as goal

pub returns-clause-value : goal.returns-clause-value
returns-clause-value c =
    most_is (take c.loop-arcs.arcs-index c.as_slice-arcs-items.result.now) c.loop-arcs.most c.loop-arcs.invariant
    ∙ ap most_in (take_all c.loop-arcs.arcs-index c.as_slice-arcs-items.result.now (omega arith)
    ∙ (c.as_slice-arcs-items.ensures ∙ ap (λ automaton. automaton.moves) c.self.view_is))

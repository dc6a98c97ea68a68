use Rattle.helix_compile.specs.Inner.Subsets.{HasNoSplit}
use Rattle.helix_compile.proofs.RangeEnds.{few_arcs}
use Rattle.helix_compile.proofs.Subsets.{accepts_start}
use Rattle.helix_compile.proofs.determinize.determinize.Goals as goal

pub returns-clause-words : goal.returns-clause-words
returns-clause-words c = accepts_start c.explore.result c.args.nfa.now c.args.start c.in_ok-set.set.items
    c.in_ok-set.ensures.same
    c.explore.ensures.words

pub returns-clause-arcs : goal.returns-clause-arcs
returns-clause-arcs c = few_arcs c.explore.result (λ set. HasNoSplit c.args.nfa.now set.items) c.args.nfa.now
    c.explore.ensures.arcs

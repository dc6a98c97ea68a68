use Rattle.helix_compile.specs.ExprRanges.{expr_ranges}
use Rattle.helix_compile.proofs.RangeEnds.{few_arcs_of}
use Rattle.helix_compile.proofs.compiled.dfa_of.Goals as goal

pub returns-clause-arcs : goal.returns-clause-arcs
returns-clause-arcs c = few_arcs_of c.determinize.result c.as_slice.result.now c.in_ok-nfa.nfa
    (expr_ranges c.args.regex.now.expr) c.as_slice.ensures c.in_ok-nfa.ensures.reads c.determinize.ensures.arcs

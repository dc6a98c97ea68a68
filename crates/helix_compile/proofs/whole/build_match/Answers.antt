use Rattle.helix_compile.specs.ExprRanges.{expr_ranges}
use Rattle.helix_compile.proofs.WholePatterns.{match_alone, match_within}
use Rattle.helix_compile.proofs.ReadRanges.{match_reads, match_after_reads}
use Rattle.helix_compile.proofs.whole.build_match.Goals as goal

pub returns-then-not-containing-clause-leads : goal.returns-then-not-containing-clause-leads
returns-then-not-containing-clause-leads c =
    match_alone c.args.nfa.now c.build.new.nfa c.args.regex.now c.args.containing c.args.next c.build.result
    c.if-not-containing.true c.build.ensures.leads

pub returns-clause-leads : goal.returns-clause-leads
returns-clause-leads c =
    match_within c.args.nfa.now c.build-2.new.nfa c.build_before.new.nfa c.args.regex.now c.args.containing
    c.in_ok-middle.middle
    c.args.next c.build_before.result c.if-not-containing.false c.in_ok-middle.ensures.grows
    c.in_ok-middle.ensures.leads c.build_before.ensures.grows c.build_before.ensures.leads

pub returns-then-not-containing-clause-reads : goal.returns-then-not-containing-clause-reads
returns-then-not-containing-clause-reads c =
    match_reads c.args.nfa.now c.build.new.nfa (expr_ranges c.args.regex.now.expr) c.build.result c.build.ensures.reads

pub returns-clause-reads : goal.returns-clause-reads
returns-clause-reads c =
    match_after_reads c.args.nfa.now c.build-2.new.nfa c.build_before.new.nfa (expr_ranges c.args.regex.now.expr)
    c.build_before.result c.in_ok-middle.ensures.reads c.build_before.ensures.reads

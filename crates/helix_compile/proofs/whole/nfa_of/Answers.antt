use Rattle.std.proofs.Common.{◌∙◌, ap, ◌++◌, ◌∷◌, [], length}
use Rattle.helix_compile.specs.ExprRanges.{expr_ranges}
use Rattle.helix_compile.specs.Inner.Patterns.{any_character, is_open}
use Rattle.helix_compile.proofs.ReadRanges.{whole_reads}
use Rattle.helix_compile.proofs.WholePatterns.{whole_pattern}
use Rattle.helix_compile.proofs.whole.nfa_of.Goals as goal

pub returns-clause-words : goal.returns-clause-words
returns-clause-words c = whole_pattern c.add.new.self c.build_match.new.nfa c.in_ok-first.first c.in_ok-end.end
    c.args.regex.now c.args.containing
    (c.in_ok-end.ensures.added
    ∙ (ap (λ l. l ++ c.end_of.result ∷ []) c.new-nfa.ensures ∙ ap (λ s. [] ++ s ∷ []) c.end_of.ensures))
    (c.in_ok-end.ensures.number ∙ ap length c.new-nfa.ensures) c.in_ok-first.ensures.grows c.in_ok-first.ensures.leads

pub returns-clause-reads : goal.returns-clause-reads
returns-clause-reads c = whole_reads c.new-nfa.result c.add.new.self c.build_match.new.nfa
    (any_character ++ expr_ranges c.args.regex.now.expr) c.end_of.result (is_open c.args.regex.now c.args.containing)
    c.new-nfa.ensures c.end_of.ensures c.in_ok-end.ensures.added c.in_ok-first.ensures.reads

use Rattle.std.proofs.Common.{◌∙◌, ◌++◌, ap}
use Rattle.helix_compile.specs.Inner.Patterns.{any_character}
use Rattle.helix_compile.proofs.WholePatterns.{before_bound_builds, before_free_builds}
use Rattle.helix_compile.proofs.ReadRanges.{before_reads}
use Rattle.helix_compile.proofs.whole.build_before.Goals as goal

pub returns-then-bound-clause-leads : goal.returns-then-bound-clause-leads
returns-then-bound-clause-leads c = before_bound_builds c.args.nfa.now c.args.bound c.args.next c.if-bound.true

pub returns-clause-leads : goal.returns-clause-leads
returns-clause-leads c =
    before_free_builds c.args.nfa.now c.build_star.new.nfa c.args.bound c.args.next c.push.new.self c.build_star.result
    c.if-bound.false
    (c.in_ok-push.ensures.ok ∙ ap (λ l. l ++ any_character) c.new-ranges.ensures) c.build_star.ensures.leads

pub returns-clause-reads : goal.returns-clause-reads
returns-clause-reads c =
    before_reads c.args.nfa.now c.build_star.new.nfa c.push.new.self c.build_star.result
    (c.in_ok-push.ensures.ok ∙ ap (λ l. l ++ any_character) c.new-ranges.ensures) c.build_star.ensures.reads

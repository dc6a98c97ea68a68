use Rattle.std.proofs.Common.{sym, ◌∙◌}
use Rattle.helix_compile.proofs.Gathering.{alternatives_all, alternatives_with_chars, grows_two, none_of}
use Rattle.helix_compile.proofs.ReadRanges.{chars_split_reads}
use Rattle.helix_compile.proofs.alternatives.build_chars.Goals as goal

pub returns-clause-grows : goal.returns-clause-grows
returns-clause-grows c =
    grows_two c.args.nfa.now c.add.new.self c.add-2.new.self _ _ c.add-2.result c.in_ok-first.ensures.added
    c.add-2.ensures.added

pub returns-clause-leads : goal.returns-clause-leads
returns-clause-leads c =
    alternatives_with_chars c.args.nfa.now c.add.new.self c.add-2.new.self c.args.others c.in_ok-first.first c.args.next
    c.args.chars c.add-2.result
    c.in_ok-first.ensures.added c.in_ok-first.ensures.number c.add-2.ensures.added c.add-2.ensures.number

pub returns-then-is_empty-clause-leads : goal.returns-then-is_empty-clause-leads
returns-then-is_empty-clause-leads c =
    λ start done old. alternatives_all start c.args.nfa.now c.args.others c.args.next c.args.chars done
    (sym c.as_slice.ensures ∙ none_of c.as_slice.result.now (sym c.is_empty.ensures ∙ c.if-is_empty.true)) old

pub returns-clause-reads : goal.returns-clause-reads
returns-clause-reads c =
    chars_split_reads c.args.nfa.now c.add.new.self c.add-2.new.self c.args.chars c.args.next c.in_ok-first.first
    c.args.others c.add-2.result c.in_ok-first.ensures.added c.add-2.ensures.added

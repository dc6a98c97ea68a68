use Rattle.std.proofs.Common.{sym, ◌∙◌}
use Rattle.std.proofs.lemmas.Bool.{iff_false}
use Rattle.helix_compile.proofs.Stepping.{none_read, notes_all, notes_none, notes_unlisted, notes_next}
use Rattle.helix_compile.proofs.step.note_next.Goals as goal

pub returns-in_default : goal.returns-in_default
returns-in_default c = notes_none c.args.nfa.now c.args.number c.args.code c.args.seen.now
    (λ word. none_read c.args.nfa.now c.args.number c.args.code word
    (iff_false c.accepts_all_at.ensures c.if-accepts_all_at.false) c.in_default.ensures.none c.requires)

pub returns-then-accepts_all_at : goal.returns-then-accepts_all_at
returns-then-accepts_all_at c =
    notes_all c.args.nfa.now c.args.number c.args.code c.args.seen.now c.note.new.self c.note.result
    (c.accepts_all_at.ensures.0 c.if-accepts_all_at.true) c.note.ensures.seen c.note.ensures.added

pub returns-then-in_ranges : goal.returns-then-in_ranges
returns-then-in_ranges c =
    notes_next c.args.nfa.now c.args.number c.args.code c.args.seen.now c.note-then-in_ranges.new.self
    c.in-Some.ranges.now c.in-Some.next
    c.in-Some.ensures.some (sym c.in_ranges.ensures ∙ c.if-in_ranges.true) c.note-then-in_ranges.result
    c.note-then-in_ranges.ensures.seen c.note-then-in_ranges.ensures.added

pub returns-else-in_ranges : goal.returns-else-in_ranges
returns-else-in_ranges c =
    notes_unlisted c.args.nfa.now c.args.number c.args.code c.args.seen.now c.in-Some.ranges.now c.in-Some.next
    c.in-Some.ensures.some (sym c.in_ranges.ensures ∙ c.if-in_ranges.false)

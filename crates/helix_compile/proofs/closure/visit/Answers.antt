use Rattle.std.proofs.Common.{slice_get}
use Rattle.helix_compile.proofs.Visiting.{visits_split}
use Rattle.helix_compile.proofs.closure.visit.Goals as goal

pub returns-in-Some : goal.returns-in-Some
returns-in-Some c =
    visits_split (slice_get c.args.nfa.now c.args.number) c.args.number c.args.seen.now c.args.found.now.items
    c.in-Some.one c.in-Some.other c.note.new.self c.note-in-Some.new.self
    c.in-Some.ensures.some c.in_ok-note.ensures.seen c.in_ok-note.ensures.added c.note-in-Some.result
    c.note-in-Some.ensures.seen c.note-in-Some.ensures.added

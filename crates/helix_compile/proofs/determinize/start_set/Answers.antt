use Rattle.helix_compile.proofs.Subsets.{one_accepts}
use Rattle.helix_compile.proofs.determinize.start_set.Goals as goal

pub returns-clause-same : goal.returns-clause-same
returns-clause-same c =
    one_accepts c.args.nfa.now c.args.start c.clear.new.self c.note.new.self c.epsilon_closure.new.found.items
    c.clear.ensures c.in_ok-note.ensures.added c.in_ok-note.ensures.seen
    c.in_ok-epsilon_closure.ensures.same

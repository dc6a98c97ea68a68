use Rattle.std.proofs.Common.{◌+◌, length, ap, subst, arith}
use Rattle.helix_automata.specs.Automaton.{most_arcs}
use Rattle.helix_words.specs.Trails.{IsTrailAnswer}
use Rattle.helix_words.specs.Inner.Tables.{AreTables}
use Rattle.helix_words.specs.Inner.Fills.{IsLongFrom}
use Rattle.helix_words.proofs.MoveBounds.{moved_question}
use Rattle.helix_words.proofs.TrailAnswers.{takes_least, goes_longer}
use Rattle.helix_words.proofs.words.Words.next.Goals as goal

pub overflow_cast-count : goal.overflow_cast-count
overflow_cast-count g c =
    let are = subst (λ w. AreTables w c.self.inside.rows c.self.inside.table c.self.inside.lengths) c.self.view_is
    c.self.invariant in
    record { fits = omega (arith, ap length c.word.ensures, c.requires.along.is_word.not_long, are.short) }

pub overflow_add-count : goal.overflow_add-count
overflow_add-count g c =
    let are = subst (λ w. AreTables w c.self.inside.rows c.self.inside.table c.self.inside.lengths) c.self.view_is
    c.self.invariant in
    record { fits = omega (arith, ap length c.word.ensures, c.requires.along.is_word.not_long, are.short) }

pub returns-in-Some-clause-answer : goal.returns-in-Some-clause-answer
returns-in-Some-clause-answer g c =
    takes_least c.args.self.now c.args.trail.now c.requires.along c.take_branch.new.trail c.take_branch.ensures.takes

pub returns-in-Some-clause-moves : goal.returns-in-Some-clause-moves
returns-in-Some-clause-moves g c =
    let are = subst (λ w. AreTables w c.self.inside.rows c.self.inside.table c.self.inside.lengths) c.self.view_is
    c.self.invariant in
    moved_question g.L.Ledger.IsNoted (length c.args.trail.now.word) (length c.args.trail.now.word)
    (most_arcs c.args.self.now.automaton) c.args.steps.now c.deepest_branch.new.steps c.take_branch.new.steps
    (omega (arith, c.requires.along.is_word.not_long, are.short))
    (omega (arith, c.requires.along.is_word.not_long, are.short))
    c.deepest_branch.ensures.moves c.take_branch.ensures.moves

pub returns-in-None-clause-answer : goal.returns-in-None-clause-answer
returns-in-None-clause-answer g c =
    goes_longer c.args.self.now c.args.trail.now c.requires.along c.in-None.ensures.branch c.start_long.result
    c.start_long.new.trail
    (subst (λ word. IsTrailAnswer c.args.self.now (IsLongFrom (length word + 1)) c.start_long.result c.args.trail.now
    c.start_long.new.trail) c.word.ensures c.start_long.ensures.answer)

pub returns-in-None-clause-moves : goal.returns-in-None-clause-moves
returns-in-None-clause-moves g c =
    let are = subst (λ w. AreTables w c.self.inside.rows c.self.inside.table c.self.inside.lengths) c.self.view_is
    c.self.invariant in
    moved_question g.L.Ledger.IsNoted (length c.args.trail.now.word) 1000
    (most_arcs c.args.self.now.automaton) c.args.steps.now c.deepest_branch.new.steps c.start_long.new.steps
    (omega (arith, c.requires.along.is_word.not_long, are.short)) (omega arith)
    c.deepest_branch.ensures.moves c.start_long.ensures.moves

use Rattle.std.proofs.Common.{◌+◌, ◌≤◌, ◌<◌, length, slice_index, refl, sym, subst, arith}
use Rattle.helix_automata.specs.Automaton.{most_arcs}
use Rattle.helix_words.specs.Trails.{Along, AreAlong}
use Rattle.helix_words.specs.Inner.Rests.{HasRest}
use Rattle.helix_words.specs.Inner.Fills.{Extends}
use Rattle.helix_words.proofs.MoveBounds.{moved_fewer}
use Rattle.helix_words.proofs.AlongTrails.{along_none}
use Rattle.helix_words.proofs.Answers.{long_none}
use Rattle.helix_words.proofs.TrailAnswers.{starts_least, starts_in_room}
use Rattle.helix_words.proofs.trails.start_long.Goals as goal

pub extend-requires-clause-along : goal.extend-requires-clause-along
extend-requires-clause-along g c =
    subst (λ (trail : Along). AreAlong c.args.words.now.automaton trail.word trail.states) (sym c.clear.ensures)
    (along_none c.args.words.now.automaton)

pub extend-requires-clause-state : goal.extend-requires-clause-state
extend-requires-clause-state g c =
    subst (λ (trail : Along). slice_index trail.states (length trail.word) < length c.args.words.now.automaton.moves)
    (sym c.clear.ensures) c.in-Some.ensures.some.start

pub extend-requires-clause-rest : goal.extend-requires-clause-rest
extend-requires-clause-rest g c =
    subst (λ (trail : Along). HasRest c.args.words.now.automaton (slice_index trail.states (length trail.word))
    c.in-Some.count)
    (sym c.clear.ensures) c.in-Some.ensures.some.is_length.has_rest

pub extend-requires-clause-room : goal.extend-requires-clause-room
extend-requires-clause-room g c =
    let low = starts_in_room c.args.words.now c.in-Some.count c.args.trail.now.room c.in-Some.ensures.some.is_length
    c.requires in
    subst (λ (trail : Along). length trail.word + c.in-Some.count ≤ trail.room) (sym c.clear.ensures)
    (omega (arith, low))

pub returns-in-Some-clause-answer : goal.returns-in-Some-clause-answer
returns-in-Some-clause-answer g c =
    starts_least c.args.words.now c.args.from c.in-Some.count c.args.trail.now c.extend.new.trail c.in-Some.ensures.some
    (subst (λ trail. Extends c.args.words.now.automaton c.in-Some.count trail c.extend.new.trail) c.clear.ensures
    c.extend.ensures.extends)

pub returns-in-Some-clause-moves : goal.returns-in-Some-clause-moves
returns-in-Some-clause-moves g c =
    moved_fewer g.L.Ledger.IsNoted c.in-Some.count 1000 (most_arcs c.args.words.now.automaton) c.args.steps.now
    c.extend.new.steps c.in-Some.ensures.some.few c.extend.ensures.moves

pub returns-in-None-clause-answer : goal.returns-in-None-clause-answer
returns-in-None-clause-answer g c = (refl, long_none c.args.words.now c.args.from c.in-None.ensures.none)

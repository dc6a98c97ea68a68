use Rattle.std.proofs.Common.{◌≡◌, ◌∙◌, ◌+◌, ◌-◌, ◌∷◌, ◌++◌, [], ◌≤◌, ◌<◌, ℕ, List, length, take, slice_index, sym, ap, subst, arith}
use Rattle.helix_automata.specs.Automaton.{most_arcs}
use Rattle.helix_words.specs.Trails.{Along, AreAlong}
use Rattle.helix_words.specs.Inner.Rests.{HasRest}
use Rattle.helix_words.specs.Inner.Fills.{Extends}
use Rattle.helix_words.proofs.MoveBounds.{moved_fewer}
use Rattle.helix_words.proofs.TrailAnswers.{turned_along, turned_state, turned_length, turned_least}
use Rattle.helix_words.proofs.trails.take_branch.Goals as goal

-- a trail that was cut and then got one more step
pushed : (cut new : Along) (word states : List ℕ) (room character to : ℕ)
    → new ≡ record { word = cut.word ++ character ∷ []; states = cut.states ++ to ∷ []; room = cut.room }
    → cut ≡ record { word = word; states = states; room = room }
    → new ≡ record { word = word ++ character ∷ []; states = states ++ to ∷ []; room = room }
pushed cut new word states room character to is was =
    is ∙ ap (λ (t : Along). record { word = t.word ++ character ∷ []; states = t.states ++ to ∷ []; room = t.room }) was

pub overflow_cast-rest : goal.overflow_cast-rest
overflow_cast-rest g c =
    record { fits = omega (arith, ap length c.word.ensures, c.requires.count, c.requires.short) }

pub extend-requires-clause-along : goal.extend-requires-clause-along
extend-requires-clause-along g c =
    subst (λ (t : Along). AreAlong c.args.words.now.automaton t.word t.states)
    (sym (pushed c.truncate.new.self c.push.new.self _ _ _ _ _ c.push.ensures c.truncate.ensures))
    (turned_along c.args.words.now.automaton c.args.trail.now c.requires.along c.args.branch c.requires.branch)

pub extend-requires-clause-state : goal.extend-requires-clause-state
extend-requires-clause-state g c =
    let state = turned_state c.args.words.now.automaton c.args.trail.now c.requires.along c.args.branch
    c.requires.branch in
    subst (λ (t : Along). slice_index t.states (length t.word) < length c.args.words.now.automaton.moves)
    (sym (pushed c.truncate.new.self c.push.new.self _ _ _ _ _ c.push.ensures c.truncate.ensures))
    (omega (arith, state, c.requires.branch.steps_off.to_within))

pub extend-requires-clause-rest : goal.extend-requires-clause-rest
extend-requires-clause-rest g c =
    subst (λ (t : Along). HasRest c.args.words.now.automaton (slice_index t.states (length t.word))
    (length c.word.result.now - c.args.branch.place - 1))
    (sym (pushed c.truncate.new.self c.push.new.self _ _ _ _ _ c.push.ensures c.truncate.ensures))
    (subst (λ s. HasRest c.args.words.now.automaton s (length c.word.result.now - c.args.branch.place - 1))
    (sym (turned_state c.args.words.now.automaton c.args.trail.now c.requires.along c.args.branch c.requires.branch))
    (subst (λ l. HasRest c.args.words.now.automaton c.args.branch.step.to (length l - c.args.branch.place - 1))
    (sym c.word.ensures) c.requires.branch.steps_off.goes_on.has_rest))

pub extend-requires-clause-room : goal.extend-requires-clause-room
extend-requires-clause-room g c =
    let long = turned_length c.args.words.now.automaton c.args.trail.now c.requires.along c.args.branch
    c.requires.branch in
    subst (λ (t : Along). length t.word + (length c.word.result.now - c.args.branch.place - 1) ≤ t.room)
    (sym (pushed c.truncate.new.self c.push.new.self _ _ _ _ _ c.push.ensures c.truncate.ensures))
    (omega (arith, long, ap length c.word.ensures, c.requires.branch.steps_off.within, c.requires.room))

pub returns-clause-takes : goal.returns-clause-takes
returns-clause-takes g c =
    turned_least c.args.words.now.automaton c.args.trail.now c.requires.along c.args.branch c.requires.branch
    c.extend.new.trail
    (subst (λ l. Extends c.args.words.now.automaton (length l - c.args.branch.place - 1) (record {
      word = take c.args.branch.place c.args.trail.now.word ++ c.args.branch.step.character ∷ [];
      states = take (c.args.branch.place + 1) c.args.trail.now.states ++ c.args.branch.step.to ∷ [];
      room = c.args.trail.now.room;
    }) c.extend.new.trail) c.word.ensures
    (subst (λ t. Extends c.args.words.now.automaton (length c.word.result.now - c.args.branch.place - 1) t
    c.extend.new.trail)
    (pushed c.truncate.new.self c.push.new.self _ _ _ _ _ c.push.ensures c.truncate.ensures) c.extend.ensures.extends))

pub returns-clause-moves : goal.returns-clause-moves
returns-clause-moves g c =
    moved_fewer g.L.Ledger.IsNoted (length c.word.result.now - c.args.branch.place - 1) (length c.args.trail.now.word)
    (most_arcs c.args.words.now.automaton) c.args.steps.now c.extend.new.steps (omega (arith, ap length c.word.ensures))
    c.extend.ensures.moves

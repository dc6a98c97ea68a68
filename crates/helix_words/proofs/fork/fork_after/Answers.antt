use Rattle.std.proofs.Common.{◌<◌, ◌+◌, ◌∙◌, length, take, drop, ◌-◌, All, sym, ap, subst, arith, length-drop}
use Rattle.std.proofs.lemmas.Bool.{false≢true}
use Rattle.std.proofs.lemmas.List.Elements.{All-drop}
use Rattle.helix_automata.specs.declared.arc.Arc.{Arc}
use Rattle.helix_words.specs.Inner.Reaching.{AreArcsTo}
use Rattle.helix_words.specs.MovesLaws.{moved_wider}
use Rattle.helix_words.proofs.Forks.{later_are, fork_last, fork_dead, fork_here, fork_later}
use Rattle.helix_words.proofs.fork.fork_after.Goals as goal

pub returns-then-code-eq4294967295-clause-fork : goal.returns-then-code-eq4294967295-clause-fork
returns-then-code-eq4294967295-clause-fork g c = λ state on.
    fork_last c.args.words.now state c.args.code c.args.rest c.requires.rest c.args.arcs.now on
    c.if-code-eq4294967295.true

pub step_among-requires-clause-within : goal.step_among-requires-clause-within
step_among-requires-clause-within g c =
    subst (All (λ (arc : Arc). arc.to < length c.args.words.now.automaton.moves)) (sym (later_are c.args.arcs.now))
    (All-drop (λ (arc : Arc). arc.to < length c.args.words.now.automaton.moves) 1 c.args.arcs.now c.requires.within)

pub returns-then-not-fits-clause-fork : goal.returns-then-not-fits-clause-fork
returns-then-not-fits-clause-fork g c = λ state on.
    fork_dead c.args.words.now state c.args.code c.args.rest c.requires.rest c.args.arcs.now on
    (record { first = 0; last = 0; to = 0 }) c.requires.some
    (λ has. false≢true (sym c.if-not-fits.true ∙ c.requires.fits.1 has)) c.step_among.result
    (λ state are. c.step_among.ensures.step state
    (subst (AreArcsTo c.args.words.now.automaton state (c.args.code + 1) c.args.rest)
    (sym (later_are c.args.arcs.now)) are))

pub returns-then-not-fits-clause-moves : goal.returns-then-not-fits-clause-moves
returns-then-not-fits-clause-moves g c =
    moved_wider g.L.Ledger.IsNoted (length (take (length c.args.arcs.now - 1) (drop 1 c.args.arcs.now)))
    (length c.args.arcs.now - 1) c.args.steps.now c.step_among.new.steps
    (omega (arith, ap length (later_are c.args.arcs.now), length-drop 1 c.args.arcs.now)) c.step_among.ensures.moves

pub step_among-requires-in-None-clause-within : goal.step_among-requires-in-None-clause-within
step_among-requires-in-None-clause-within g c =
    subst (All (λ (arc : Arc). arc.to < length c.args.words.now.automaton.moves)) (sym (later_are c.args.arcs.now))
    (All-drop (λ (arc : Arc). arc.to < length c.args.words.now.automaton.moves) 1 c.args.arcs.now c.requires.within)

pub state_along-along-requires : goal.state_along-along-requires
state_along-along-requires g c = c.requires.reaches

pub returns-in-Some-clause-fork : goal.returns-in-Some-clause-fork
returns-in-Some-clause-fork g c = λ state on.
    fork_here c.args.words.now state c.args.code c.args.rest c.requires.rest c.args.arcs.now on
    (record { first = 0; last = 0; to = 0 }) c.requires.some (c.requires.fits.0 c.if-not-fits.false)
    c.state_along-along.result c.state_along-along.ensures.some c.state_along-along.ensures.none c.in-Some.character
    c.in-Some.ensures.some

pub returns-in-None-clause-fork : goal.returns-in-None-clause-fork
returns-in-None-clause-fork g c = λ state on.
    fork_later c.args.words.now state c.args.code c.args.rest c.requires.rest c.args.arcs.now on
    (record { first = 0; last = 0; to = 0 }) c.requires.some (c.requires.fits.0 c.if-not-fits.false)
    c.state_along-along.result c.state_along-along.ensures.some c.state_along-along.ensures.none c.in-None.ensures.none
    c.step_among-in-None.result
    (λ state are. c.step_among-in-None.ensures.step state
    (subst (AreArcsTo c.args.words.now.automaton state (c.args.code + 1) c.args.rest)
    (sym (later_are c.args.arcs.now)) are))

pub returns-in-None-clause-moves : goal.returns-in-None-clause-moves
returns-in-None-clause-moves g c =
    moved_wider g.L.Ledger.IsNoted (length (take (length c.args.arcs.now - 1) (drop 1 c.args.arcs.now)))
    (length c.args.arcs.now - 1) c.args.steps.now c.step_among-in-None.new.steps
    (omega (arith, ap length (later_are c.args.arcs.now), length-drop 1 c.args.arcs.now))
    c.step_among-in-None.ensures.moves

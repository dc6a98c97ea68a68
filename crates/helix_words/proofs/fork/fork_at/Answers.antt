use Rattle.std.proofs.Common.{◌<◌, ◌-◌, length, eqb-true, pos_of_ne-zero, refl, sym, arith}
use Rattle.std.proofs.lemmas.Bool.{eqb-false}
use Rattle.helix_automata.specs.Automaton.{most_arcs}
use Rattle.helix_words.proofs.MoveBounds.{moved_first, moved_on}
use Rattle.helix_words.proofs.Forks.{fork_none, fork_goes_on}
use Rattle.helix_words.proofs.fork.fork_at.Goals as goal

pub returns-then-is_empty-clause-fork : goal.returns-then-is_empty-clause-fork
returns-then-is_empty-clause-fork g c =
    fork_none c.args.words.now c.args.state c.args.code c.args.rest c.requires.rest c.arcs_from-arcs.result.now
    c.arcs_from-arcs.ensures (eqb-true (length c.arcs_from-arcs.result.now) 0 (sym c.if-is_empty.ensures))

pub fork_after-requires-clause-some : goal.fork_after-requires-clause-some
fork_after-requires-clause-some g c =
    pos_of_ne-zero (eqb-false (length c.arcs_from-arcs.result.now) 0 (sym c.if-is_empty.ensures))

pub fork_after-requires-clause-within : goal.fork_after-requires-clause-within
fork_after-requires-clause-within g c = λ i d within. (c.arcs_from-arcs.ensures.each i d within).within

pub returns-then-goes_on-clause-fork : goal.returns-then-goes_on-clause-fork
returns-then-goes_on-clause-fork g c =
    fork_goes_on c.args.words.now c.args.state c.args.code c.args.rest c.requires.rest c.arcs_from-arcs.result.now
    c.arcs_from-arcs.ensures (record { first = 0; last = 0; to = 0 })
    (pos_of_ne-zero (eqb-false (length c.arcs_from-arcs.result.now) 0 (sym c.if-is_empty.ensures)))
    (c.has_rest-fits.ensures.0 c.if-fits.true) c.if-goes_on.ensures

pub returns-then-goes_on-clause-moves : goal.returns-then-goes_on-clause-moves
returns-then-goes_on-clause-moves g c =
    let some : 0 < length c.arcs_from-arcs.result.now =
    pos_of_ne-zero (eqb-false (length c.arcs_from-arcs.result.now) 0 (sym c.if-is_empty.ensures)) in
    moved_first g.L.Ledger.IsNoted (most_arcs c.args.words.now.automaton) c.args.steps.now c.tick.new.self
    (omega (arith, some, c.arcs_from-arcs.ensures.few))
    (record { counted = c.tick.ensures.counts; noted = c.tick.ensures.noted })

pub returns-clause-moves : goal.returns-clause-moves
returns-clause-moves g c =
    moved_on g.L.Ledger.IsNoted (length c.arcs_from-arcs.result.now) (length c.arcs_from-arcs.result.now - 1)
    (most_arcs c.args.words.now.automaton) c.args.steps.now c.tick.new.self c.fork_after.new.steps
    (pos_of_ne-zero (eqb-false (length c.arcs_from-arcs.result.now) 0 (sym c.if-is_empty.ensures)))
    c.arcs_from-arcs.ensures.few refl (record { counted = c.tick.ensures.counts; noted = c.tick.ensures.noted })
    c.fork_after.ensures.moves

pub fork_after-requires-clause-reaches : goal.fork_after-requires-clause-reaches
fork_after-requires-clause-reaches g c =
    c.arcs_from-arcs.ensures.reaches (record { first = 0; last = 0; to = 0 })
    (pos_of_ne-zero (eqb-false (length c.arcs_from-arcs.result.now) 0 (sym c.if-is_empty.ensures)))

pub returns-clause-fork : goal.returns-clause-fork
returns-clause-fork g c = c.fork_after.ensures.fork c.args.state c.arcs_from-arcs.ensures

use Rattle.std.proofs.Common.{refl, sym, ap, ◌∙◌, subst, arith}
use Rattle.helix_automata.specs.Automaton.{most_arcs}
use Rattle.helix_words.specs.Inner.Fills.{with_rest, HasRoomForMore}
use Rattle.helix_words.proofs.MoveBounds.{moved_fewer}
use Rattle.helix_words.proofs.Answers.{long_least, long_none}
use Rattle.helix_words.proofs.slots.put_long.Goals as goal

pub fill-requires-clause-state : goal.fill-requires-clause-state
fill-requires-clause-state g c = c.in-Some.ensures.some.start

pub fill-requires-clause-rest : goal.fill-requires-clause-rest
fill-requires-clause-rest g c = c.in-Some.ensures.some.is_length.has_rest

pub fill-requires-clause-room : goal.fill-requires-clause-room
fill-requires-clause-room g c =
    subst (HasRoomForMore c.in-Some.count) (sym c.set.ensures) (omega (arith, c.in-Some.ensures.some.few))

pub returns-in-Some-clause-answer : goal.returns-in-Some-clause-answer
returns-in-Some-clause-answer g c = record {
  word = c.fill.ensures.adds.rest;
  is = c.fill.ensures.adds.is ∙ ap (λ cell. with_rest cell c.fill.ensures.adds.rest) c.set.ensures;
  is_least = long_least c.args.words.now c.args.from c.in-Some.count c.fill.ensures.adds.rest c.in-Some.ensures.some
      c.fill.ensures.adds.is_least;
}

pub returns-in-Some-clause-moves : goal.returns-in-Some-clause-moves
returns-in-Some-clause-moves g c =
    moved_fewer g.L.Ledger.IsNoted c.in-Some.count 1000 (most_arcs c.args.words.now.automaton) c.args.steps.now
    c.fill.new.steps c.in-Some.ensures.some.few c.fill.ensures.moves

pub returns-in-None-clause-answer : goal.returns-in-None-clause-answer
returns-in-None-clause-answer g c = (refl, long_none c.args.words.now c.args.from c.in-None.ensures.none)

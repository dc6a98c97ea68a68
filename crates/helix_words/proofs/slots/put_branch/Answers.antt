use Rattle.std.proofs.Common.{◌-◌, ◌∷◌, ◌++◌, [], length, take, sym, ap, ◌∙◌, subst, arith, length-take, append_assoc}
use Rattle.std.proofs.lemmas.List.{length-take-le, length_push}
use Rattle.helix_automata.specs.Automaton.{most_arcs}
use Rattle.helix_values.specs.Slot.{HasRoom, lengthened}
use Rattle.helix_values.specs.declared.cell.Cell.TheVariants as cell
use Rattle.helix_words.specs.Inner.Fills.{with_rest, HasRoomForMore}
use Rattle.helix_words.proofs.MoveBounds.{moved_fewer}
use Rattle.helix_words.proofs.slots.put_branch.Goals as goal

pub set-requires : goal.set-requires
set-requires g c = omega
    (arith, length-take c.args.branch.place c.args.word.now, c.requires.short, c.requires.count)

pub push-requires : goal.push-requires
push-requires g c = subst HasRoom (sym c.set.ensures) (omega (
  arith,
  length-take c.args.branch.place c.args.word.now,
  c.requires.branch.steps_off.within,
  c.requires.short,
  c.requires.count,
))

pub overflow_cast-rest : goal.overflow_cast-rest
overflow_cast-rest g c = record { fits = omega (arith, c.requires.short, c.requires.count) }

pub fill-requires-clause-state : goal.fill-requires-clause-state
fill-requires-clause-state g c = c.requires.branch.steps_off.to_within

pub fill-requires-clause-room : goal.fill-requires-clause-room
fill-requires-clause-room g c =
    let is = c.push.ensures ∙ ap (λ text. lengthened text c.args.branch.step.character) c.set.ensures in
    subst (HasRoomForMore (length c.args.word.now - c.args.branch.place - 1)) (sym is) (omega (
      arith,
      length_push (take c.args.branch.place c.args.word.now) c.args.branch.step.character,
      length-take-le c.args.branch.place c.args.word.now (omega (arith, c.requires.branch.steps_off.within)),
      c.requires.branch.steps_off.within,
      c.requires.short,
      c.requires.count,
    ))

pub returns-clause-puts : goal.returns-clause-puts
returns-clause-puts g c =
    let is = c.push.ensures ∙ ap (λ text. lengthened text c.args.branch.step.character) c.set.ensures in
    record {
      above = take c.args.branch.place c.args.word.now ++ c.args.branch.step.character ∷ c.fill.ensures.adds.rest;
      is = c.fill.ensures.adds.is ∙ ap (λ text. with_rest text c.fill.ensures.adds.rest) is
          ∙ ap cell.Text (append_assoc (take c.args.branch.place c.args.word.now) (c.args.branch.step.character ∷ [])
          c.fill.ensures.adds.rest);
      is_least = c.requires.branch.least c.fill.ensures.adds.rest c.fill.ensures.adds.is_least;
    }

pub returns-clause-moves : goal.returns-clause-moves
returns-clause-moves g c =
    moved_fewer g.L.Ledger.IsNoted (length c.args.word.now - c.args.branch.place - 1) (length c.args.word.now)
    (most_arcs c.args.words.now.automaton) c.args.steps.now c.fill.new.steps (omega arith) c.fill.ensures.moves

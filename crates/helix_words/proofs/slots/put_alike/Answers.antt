use Rattle.std.proofs.Common.{◌≡◌, ◌∙◌, false, length, refl, sym, subst, arith}
use Rattle.std.proofs.lemmas.Bool.{false≢true}
use Rattle.helix_automata.specs.Automaton.{most_arcs}
use Rattle.helix_words.specs.Words.{IsLeastWord}
use Rattle.helix_words.specs.Inner.Rests.{IsRest}
use Rattle.helix_words.specs.Inner.Walks.{IsBranchOf}
use Rattle.helix_words.specs.Inner.Fills.{IsAlikeFrom}
use Rattle.helix_words.proofs.MoveBounds.{moved_twice}
use Rattle.helix_words.proofs.Answers.{text_least, branch_least, branch_none}
use Rattle.helix_words.proofs.slots.put_alike.Goals as goal
use Rattle.helix_words.proofs.slots.put_alike.Goals.{else-walk-via-then-walk+else-not-strict, else-walk-via-else-walk}

pub set-requires : goal.set-requires
set-requires g c = omega (arith, c.requires.short, c.requires.length.not_long)

pub returns-then-not-strict-clause-answer : goal.returns-then-not-strict-clause-answer
returns-then-not-strict-clause-answer g c = record {
  word = c.args.word.now;
  is = c.set.ensures;
  is_least = subst (λ s. IsLeastWord c.args.words.now (IsAlikeFrom s c.args.word.now) c.args.word.now)
      (sym c.if-not-strict.true)
      (text_least c.args.words.now c.args.word.now c.requires.length
      (c.walk_along-walk.ensures.walk.accepted.0 c.if-walk.true));
}

pub returns-in-Some-clause-answer : goal.returns-in-Some-clause-answer
returns-in-Some-clause-answer g c =
    let not : ¬ ((c.args.strict ≡ false) × IsRest c.args.words.now.automaton 0 (length c.args.word.now)
    c.args.word.now) =
    λ both. elim c.else-walk.branch [
      | else-walk-via-then-walk+else-not-strict w ↦ false≢true (sym both.0 ∙ w.if-not-strict.false)
      | else-walk-via-else-walk w ↦ false≢true (sym w.if-walk.false ∙ c.walk_along-walk.ensures.walk.accepted.1 both.1)
    ] in
    record {
      word = c.put_branch.ensures.puts.above;
      is = c.put_branch.ensures.puts.is;
      is_least = branch_least c.args.words.now c.args.word.now c.requires.length c.args.strict not
          c.put_branch.ensures.puts.above c.put_branch.ensures.puts.is_least;
    }

pub returns-in-Some-clause-moves : goal.returns-in-Some-clause-moves
returns-in-Some-clause-moves g c =
    moved_twice g.L.Ledger.IsNoted (length c.args.word.now) (most_arcs c.args.words.now.automaton) c.args.steps.now
    c.walk_along-walk.new.steps c.put_branch.new.steps c.walk_along-walk.ensures.moves c.put_branch.ensures.moves

pub returns-in-None-clause-answer : goal.returns-in-None-clause-answer
returns-in-None-clause-answer g c =
    let not : ¬ ((c.args.strict ≡ false) × IsRest c.args.words.now.automaton 0 (length c.args.word.now)
    c.args.word.now) =
    λ both. elim c.else-walk.branch [
      | else-walk-via-then-walk+else-not-strict w ↦ false≢true (sym both.0 ∙ w.if-not-strict.false)
      | else-walk-via-else-walk w ↦ false≢true (sym w.if-walk.false ∙ c.walk_along-walk.ensures.walk.accepted.1 both.1)
    ] in (
      refl,
      branch_none c.args.words.now c.args.word.now c.requires.length c.args.strict not
          (subst (IsBranchOf c.args.words.now.automaton c.args.word.now) c.in-None.is
          c.walk_along-walk.ensures.walk.branch),
    )

use Rattle.std.proofs.Common.{◌∙◌, ◌+◌, ◌*◌, length, sym, ap, subst, arith}
use Rattle.std.specs.Bool.{OnFalse}
use Rattle.std.proofs.lemmas.Bool.{false≢true}
use Rattle.helix_automata.specs.Automaton.{most_arcs}
use Rattle.helix_words.specs.Words.{WordSet}
use Rattle.helix_words.specs.Moves.{MovedAtMost}
use Rattle.helix_words.specs.MovesLaws.{moved_wider}
use Rattle.helix_words.specs.Inner.Tables.{AreTables, IsLengthOf}
use Rattle.helix_words.specs.Inner.Fills.{IsWordAnswer, IsAlikeFrom, IsLongFrom}
use Rattle.helix_words.proofs.MoveBounds.{moved_walk_on}
use Rattle.helix_words.proofs.Answers.{longer_answer, length_of_word}
use Rattle.helix_words.proofs.slots.put_from.Goals as goal
use Rattle.helix_words.proofs.slots.put_from.Goals.{else-has_length-via-then-has_length+else-put_alike, else-has_length-via-else-has_length}

pub returns-clause-answer : goal.returns-clause-answer
returns-clause-answer g c =
    elim c.else-has_length.branch [
      | else-has_length-via-then-has_length+else-put_alike w ↦
          (let none = subst (λ b. IsWordAnswer c.args.words.now (IsAlikeFrom c.args.strict c.args.word.now) b
          c.args.out.now
          w.put_alike.new.out) w.if-put_alike.false w.put_alike.ensures.answer in
          longer_answer c.args.words.now c.args.strict c.args.word.now none.1 c.put_long.result c.args.out.now
          c.put_long.new.out
          (subst (λ old. IsWordAnswer c.args.words.now (IsLongFrom (length c.args.word.now + 1)) c.put_long.result old
          c.put_long.new.out) (w.out-is ∙ none.0) c.put_long.ensures.answer))
      | else-has_length-via-else-has_length w ↦
          longer_answer c.args.words.now c.args.strict c.args.word.now
          (λ word is alike. false≢true (sym w.if-has_length.false ∙ c.has_length.ensures.1
          (subst (IsLengthOf c.args.words.now) alike.0 (length_of_word c.args.words.now word is))))
          c.put_long.result c.args.out.now c.put_long.new.out
          (subst (λ old. IsWordAnswer c.args.words.now (IsLongFrom (length c.args.word.now + 1)) c.put_long.result old
          c.put_long.new.out) w.out-is c.put_long.ensures.answer)
    ]

pub returns-clause-moves : goal.returns-clause-moves
returns-clause-moves g c =
    let are = subst (λ w. AreTables w c.words.inside.rows c.words.inside.table c.words.inside.lengths) c.words.view_is
    c.words.invariant in
    elim c.else-has_length.branch [
      | else-has_length-via-then-has_length+else-put_alike w ↦
          (let first = subst (λ b. OnFalse b (MovedAtMost g.L.Ledger.IsNoted
          (length c.args.word.now * most_arcs c.args.words.now.automaton) c.args.steps.now w.put_alike.new.steps))
          w.if-put_alike.false w.put_alike.ensures.few in
          moved_walk_on g.L.Ledger.IsNoted (length c.args.word.now) (most_arcs c.args.words.now.automaton)
          c.args.steps.now w.put_alike.new.steps c.put_long.new.steps
          (omega (arith, c.if-word-words.false, are.short, ap (λ (w : WordSet). w.longest) c.words.view_is)) first
          (subst (λ old. MovedAtMost g.L.Ledger.IsNoted (1000 * most_arcs c.args.words.now.automaton) old
          c.put_long.new.steps) w.steps-is c.put_long.ensures.moves))
      | else-has_length-via-else-has_length w ↦
          moved_wider g.L.Ledger.IsNoted (1000 * most_arcs c.args.words.now.automaton)
          (1000 * (2 * most_arcs c.args.words.now.automaton)) c.args.steps.now c.put_long.new.steps (omega arith)
          (subst (λ old. MovedAtMost g.L.Ledger.IsNoted (1000 * most_arcs c.args.words.now.automaton) old
          c.put_long.new.steps) w.steps-is c.put_long.ensures.moves)
    ]

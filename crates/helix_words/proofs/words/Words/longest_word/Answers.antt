use Rattle.std.proofs.Common.{length, sym, subst}
use Rattle.helix_words.specs.Inner.Tables.{AreTables, IsLengthOf}
use Rattle.helix_words.specs.Inner.Lengths.{AreLengths}
use Rattle.helix_words.proofs.LengthsMore.{last_greatest, last_listed, last_none}
use Rattle.helix_words.proofs.Answers.{length_of_word}
use Rattle.helix_words.proofs.words.Words.longest_word.Goals as goal

pub returns-in-Some-clause-room : goal.returns-in-Some-clause-room
returns-in-Some-clause-room c word is =
    let are = subst (λ w. AreTables w c.self.inside.rows c.self.inside.table c.self.inside.lengths) c.self.view_is
    c.self.invariant in
    let lengths = subst (AreLengths (IsLengthOf c.args.self.now)) (sym c.as_slice.ensures) are.are_lengths in
    last_greatest c.as_slice.result.now lengths.ascending (length word)
    ((lengths.are (length word)).1 (length_of_word c.args.self.now word is)) c.in-Some.length.now
    (sym c.in-Some.ensures.value)

pub returns-in-Some-clause-few : goal.returns-in-Some-clause-few
returns-in-Some-clause-few c =
    let are = subst (λ w. AreTables w c.self.inside.rows c.self.inside.table c.self.inside.lengths) c.self.view_is
    c.self.invariant in
    let lengths = subst (AreLengths (IsLengthOf c.args.self.now)) (sym c.as_slice.ensures) are.are_lengths in
    ((lengths.are c.in-Some.length.now).0 (last_listed c.as_slice.result.now _ c.in-Some.length.now
    (sym c.in-Some.ensures.value))).not_long

pub returns-in-None-clause-room : goal.returns-in-None-clause-room
returns-in-None-clause-room c word is =
    let are = subst (λ w. AreTables w c.self.inside.rows c.self.inside.table c.self.inside.lengths) c.self.view_is
    c.self.invariant in
    let lengths = subst (AreLengths (IsLengthOf c.args.self.now)) (sym c.as_slice.ensures) are.are_lengths in
    absurd (last_none c.as_slice.result.now (sym c.in-None.ensures.value) (length word)
    ((lengths.are (length word)).1 (length_of_word c.args.self.now word is)))

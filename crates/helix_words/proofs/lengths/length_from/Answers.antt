use Rattle.std.proofs.Common.{sym, subst}
use Rattle.helix_words.specs.Inner.Tables.{AreTables, IsLengthOf}
use Rattle.helix_words.specs.Inner.Lengths.{AreLengths}
use Rattle.helix_words.proofs.LengthsMore.{length_found, length_missing}
use Rattle.helix_words.proofs.lengths.length_from.Goals as goal

pub returns-clause-some : goal.returns-clause-some
returns-clause-some c =
    let are = subst (λ w. AreTables w c.words.inside.rows c.words.inside.table c.words.inside.lengths) c.words.view_is
    c.words.invariant in
    length_found c.args.words.now c.as_slice.result.now
    (subst (AreLengths (IsLengthOf c.args.words.now)) (sym c.as_slice.ensures) are.are_lengths) are.short
    are.well_formed.some
    c.args.from
    c.number_from.result c.number_from.ensures

pub returns-clause-none : goal.returns-clause-none
returns-clause-none c =
    let are = subst (λ w. AreTables w c.words.inside.rows c.words.inside.table c.words.inside.lengths) c.words.view_is
    c.words.invariant in
    length_missing c.args.words.now c.as_slice.result.now
    (subst (AreLengths (IsLengthOf c.args.words.now)) (sym c.as_slice.ensures) are.are_lengths) are.short
    are.well_formed.some
    c.args.from
    c.number_from.result c.number_from.ensures

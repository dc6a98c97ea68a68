use Rattle.std.proofs.Common.{subst}
use Rattle.helix_words.specs.Inner.Tables.{AreTables}
use Rattle.helix_words.proofs.InTables.{row_is}
use Rattle.helix_words.proofs.StepAnswers.{arcs_on}
use Rattle.helix_words.proofs.reach.arcs_from.Goals as goal

pub returns : goal.returns
returns c =
    let are = subst (λ w. AreTables w c.words.inside.rows c.words.inside.table c.words.inside.lengths) c.words.view_is
    c.words.invariant in
    arcs_on c.args.words.now c.args.state c.args.code c.row.result.now c.arcs_reaching.result.now
    (row_is c.args.words.now c.words.inside.rows c.words.inside.table c.words.inside.lengths are c.args.state
    c.row.result.now c.requires c.row.ensures) c.arcs_reaching.ensures.are

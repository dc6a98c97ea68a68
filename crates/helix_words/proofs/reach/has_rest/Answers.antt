use Rattle.std.proofs.Common.{subst}
use Rattle.helix_words.specs.Inner.Tables.{AreTables}
use Rattle.helix_words.proofs.InTables.{rest_is}
use Rattle.helix_words.proofs.reach.has_rest.Goals as goal

pub returns : goal.returns
returns c =
    let are = subst (λ w. AreTables w c.words.inside.rows c.words.inside.table c.words.inside.lengths) c.words.view_is
    c.words.invariant in
    rest_is c.args.words.now c.words.inside.rows c.words.inside.table c.words.inside.lengths are c.args.state
    c.args.count
    c.has_rest.result c.requires.state c.requires.count c.has_rest.ensures

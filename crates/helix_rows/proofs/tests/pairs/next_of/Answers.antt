use Rattle.helix_rows.proofs.Listing.{next_first}
use Rattle.helix_rows.proofs.tests.pairs.next_of.Goals as goal

pub returns-then-level-eq0 : goal.returns-then-level-eq0
returns-then-level-eq0 c =
    next_first c.args.pair c.args.row.now c.args.fields.0 c.args.fields.1 c.args.level c.if-level-eq0.true

use Rattle.std.proofs.Common.{subst, sym}
use Rattle.helix_walk.proofs.Classes.{row_count, row_fits, row_for}
use Rattle.helix_walk.specs.Fields.{HasShapeFor}
use Rattle.helix_walk.proofs.walk.Walk.seek_after.Goals as goal

pub seek_after-requires-clause-count : goal.seek_after-requires-clause-count
seek_after-requires-clause-count c = row_count c.self.inside.rows c.args.row.now
    (subst (λ walk. HasShapeFor walk c.args.row.now) (sym c.self.view_is) c.requires)

pub seek_after-requires-clause-fit : goal.seek_after-requires-clause-fit
seek_after-requires-clause-fit c = row_fits c.args.self.now c.args.row.now c.requires

pub seek_after-requires-clause-cells : goal.seek_after-requires-clause-cells
seek_after-requires-clause-cells c = row_for c.self.inside.rows c.args.row.now
    (subst (λ walk. HasShapeFor walk c.args.row.now) (sym c.self.view_is) c.requires)

use Rattle.std.proofs.Common.{length, sym, ap, subst}
use Rattle.helix_rows.proofs.Cells.{cell_goes, cells_set}
use Rattle.helix_rows.proofs.Kept.{begun_now}
use Rattle.helix_rows.specs.Inner.Cells.{HasCells, IsCellOf}
use Rattle.helix_rows.specs.Inner.Levels.{level_of, part_of}
use Rattle.helix_rows.proofs.follow.raise_any.Goals as goal

pub returns-in-Some-clause-cells : goal.returns-in-Some-clause-cells
returns-in-Some-clause-cells g c =
    subst (HasCells g.R.Region.classes c.last_raisable.new.state.regions.items c.args.layout.now) (sym c.set.ensures)
    (cells_set c.args.layout.now (length c.args.state.now.row) c.requires.layout
    c.last_raisable.new.state.regions.items c.in-Some.field c.in-Some.ensures.raised.within
    c.last_raisable.new.state.row (ap length c.last_raisable.ensures.row) c.last_raisable.ensures.cells _
    (λ n listed. subst (IsCellOf g.R.Region.classes c.last_raisable.new.state.regions.items n
    (level_of c.args.layout.now c.in-Some.field).position) (sym c.view.ensures)
    (cell_goes c.args.layout.now (length c.args.state.now.row) c.requires.layout g.R.Region.fields g.R.Region.HasRow
    c.last_raisable.new.state.regions.items c.last_raisable.ensures.ready.are g.met.R.Region.shaped c.in-Some.field
    c.in-Some.ensures.raised.within c.args.state.now.row c.last_raisable.new.best
    (begun_now g.R.Region.fields g.R.Region.HasRow c.args.state.now.regions.items
    c.last_raisable.new.state.regions.items c.last_raisable.ensures.kept c.args.layout.now
    (part_of c.args.layout.now c.in-Some.field).regions _ c.in-Some.ensures.raised.goes) n listed)))

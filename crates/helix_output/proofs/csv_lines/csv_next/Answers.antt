use Rattle.std.proofs.Common.{length, ap, arith}
use Rattle.helix_output.proofs.RowCells.{begun_as, kept_as, line_with}
use Rattle.helix_output.proofs.csv_lines.csv_next.Goals as goal

pub keep_cells-requires-clause-count : goal.keep_cells-requires-clause-count
keep_cells-requires-clause-count c =
    (kept_as c.args.unchanged
    (line_with c.line.inside.fields c.line.inside.bytes.items c.line.inside.ends.items)
    c.args.line.now c.args.row.now c.line.view_is c.requires.within c.requires.fits c.requires.agrees).0.count

pub put_cells-requires-clause-from : goal.put_cells-requires-clause-from
put_cells-requires-clause-from c =
    let kept = kept_as c.args.unchanged
    (line_with c.line.inside.fields c.line.inside.bytes.items c.line.inside.ends.items)
    c.args.line.now c.args.row.now c.line.view_is c.requires.within c.requires.fits c.requires.agrees in
    omega (arith, kept.1, ap length c.as_slice.ensures)

pub put_cells-requires-clause-begun : goal.put_cells-requires-clause-begun
put_cells-requires-clause-begun c =
    begun_as c.args.unchanged c.line.inside.fields c.as_slice.result.now c.args.row.now c.line.inside.bytes.items
    c.line.inside.ends.items c.keep_cells.new.bytes.items c.keep_cells.new.ends.items c.as_slice.ensures
    c.keep_cells.ensures.bytes c.keep_cells.ensures.ends
    (kept_as c.args.unchanged
    (line_with c.line.inside.fields c.line.inside.bytes.items c.line.inside.ends.items)
    c.args.line.now c.args.row.now c.line.view_is c.requires.within c.requires.fits c.requires.agrees).0.begun

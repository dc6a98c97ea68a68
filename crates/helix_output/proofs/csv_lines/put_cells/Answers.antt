use Rattle.std.proofs.Common.{ℕ, List, ◌∙◌, subst, arith}
use Rattle.std.proofs.lemmas.List.{take_all}
use Rattle.helix_values.specs.View.{cell_of}
use Rattle.helix_output.specs.Csv.{csv_cell, csv_cells}
use Rattle.helix_output.specs.Inner.Cells.{AreJoined}
use Rattle.helix_output.proofs.CellEnds.{short-more}
use Rattle.helix_output.proofs.Joining.{AreJoined-more}
use Rattle.helix_output.proofs.RowCells.{fits-at, length-fits, length-texts, texts-at}
use Rattle.helix_output.proofs.csv_lines.put_cells.Goals as goal

pub slot-requires : goal.slot-requires
slot-requires c =
    omega (arith, c.loop-i-test.true, length-fits c.args.fields.now c.args.row.now c.requires.fits)

pub put_csv_cell-requires-clause-fits : goal.put_csv_cell-requires-clause-fits
put_csv_cell-requires-clause-fits c =
    fits-at c.args.fields.now c.args.row.now c.loop-i.i c.index-fields-i.result (cell_of c.view.result)
    c.loop-i-test.true c.requires.fits c.index-fields-i.is (c.view.ensures ∙ c.slot.ensures)

pub loop-i-preserved : goal.loop-i-preserved
loop-i-preserved c = record {
  begun = AreJoined-more (csv_cells c.args.fields.now c.args.row.now) c.loop-i.i
      (csv_cell c.index-fields-i.result (cell_of c.view.result))
      (omega (
        arith,
        c.loop-i-test.true,
        length-texts csv_cell c.args.fields.now c.args.row.now c.requires.fits,
      ))
      (texts-at csv_cell c.args.fields.now c.args.row.now c.loop-i.i c.index-fields-i.result (cell_of c.view.result)
      c.loop-i-test.true c.requires.fits c.index-fields-i.is (c.view.ensures ∙ c.slot.ensures))
      c.loop-i.bytes.items c.put_comma.new.out.items c.put_csv_cell.new.out.items c.loop-i.ends.items
      c.put_end.new.ends.items c.len.result c.loop-i.invariant.begun c.put_comma.ensures.bytes
      c.put_csv_cell.ensures.bytes (omega (arith, c.len.ensures, c.put_csv_cell.new.out.ok.0)) c.put_end.ensures.ends;
  short = short-more c.loop-i.ends.items c.put_end.new.ends.items c.loop-i.i c.len.result
      (omega (arith, c.loop-i.invariant.ends_len, c.loop-i.ends.ok.0)) c.loop-i.invariant.short
      (omega (arith, c.len.ensures, c.put_csv_cell.ensures.len, c.put_comma.ensures.len, c.loop-i.invariant.len))
      c.put_end.ensures.ends;
  len = omega (arith, c.put_csv_cell.ensures.len, c.put_comma.ensures.len, c.loop-i.invariant.len);
  ends_len = omega (arith, c.put_end.ensures.len, c.loop-i.invariant.ends_len);
  capacity = omega (
    arith,
    c.put_csv_cell.ensures.capacity,
    c.put_comma.ensures.capacity,
    c.loop-i.invariant.capacity,
  );
  ends_capacity = omega (arith, c.put_end.ensures.capacity, c.loop-i.invariant.ends_capacity);
}

pub returns-clause-whole : goal.returns-clause-whole
returns-clause-whole c =
    subst (λ (p : List (List ℕ)). AreJoined p c.loop-i.bytes.items c.loop-i.ends.items)
    (take_all c.loop-i.i (csv_cells c.args.fields.now c.args.row.now)
    (omega (arith, c.loop-i-test.false, length-texts csv_cell c.args.fields.now c.args.row.now c.requires.fits)))
    c.loop-i.invariant.begun

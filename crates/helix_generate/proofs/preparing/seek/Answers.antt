use Rattle.std.proofs.Common.{sym, ◌∙◌, ap, length, subst}
use Rattle.std.specs.List.{All}
use Rattle.helix_profile.specs.Good.{HasShape}
use Rattle.helix_values.specs.Slot.{FitsSlot}
use Rattle.helix_generate.proofs.FieldCells.{cells_shape, row_count, row_fits}
use Rattle.helix_generate.proofs.preparing.seek.Goals as goal

pub set_cells-requires-clause-count : goal.set_cells-requires-clause-count
set_cells-requires-clause-count c =
    c.requires.count ∙ sym (row_count c.args.rows.now.profile.fields c.args.row c.requires.cells)
    ∙ sym (ap length c.as_slice.ensures)

pub set_cells-requires-clause-fits : goal.set_cells-requires-clause-fits
set_cells-requires-clause-fits c =
    subst (All FitsSlot) (sym c.as_slice.ensures)
    (row_fits c.args.rows.now.profile.fields c.args.row c.requires.cells)

pub seek_after-requires : goal.seek_after-requires
seek_after-requires c =
    subst (HasShape c.args.rows.now.profile.fields) (sym (c.set_cells.ensures ∙ c.as_slice.ensures))
    (cells_shape c.args.rows.now.profile.fields c.args.row c.requires.cells)

pub advance-requires : goal.advance-requires
advance-requires c =
    ap length (c.set_cells.ensures ∙ c.as_slice.ensures)
    ∙ row_count c.args.rows.now.profile.fields c.args.row c.requires.cells
    ∙ ap (λ p. length p.profile.fields) (sym c.seek_after.ensures)

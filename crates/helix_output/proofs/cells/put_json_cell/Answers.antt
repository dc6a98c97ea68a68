use Rattle.std.proofs.Common.{subst}
use Rattle.helix_values.specs.View.{cell_of}
use Rattle.helix_output.specs.Fitting.{FitsKind}
use Rattle.helix_output.proofs.RowCells.{text_fits}
use Rattle.helix_output.proofs.cells.put_json_cell.Goals as goal

pub put_json_string-requires-clause-characters : goal.put_json_string-requires-clause-characters
put_json_string-requires-clause-characters c =
    (text_fits c.args.field.now.kind c.in-Text.text.now
    (subst (λ v. FitsKind c.args.field.now.kind (cell_of v)) c.in-Text.is c.requires.fits)).1

use Rattle.std.proofs.Common.{subst}
use Rattle.helix_values.specs.View.{cell_of}
use Rattle.helix_texts.proofs.ScalarTexts.{text_is_scalar}
use Rattle.helix_output.specs.Fitting.{FitsKind}
use Rattle.helix_output.proofs.cells.put_csv_cell.Goals as goal

pub put_csv_string-requires-clause-scalars : goal.put_csv_string-requires-clause-scalars
put_csv_string-requires-clause-scalars c =
    text_is_scalar c.args.field.now.kind c.in-Text.text.now
    (subst (λ v. FitsKind c.args.field.now.kind (cell_of v)) c.in-Text.is c.requires.fits)

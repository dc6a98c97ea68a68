use Rattle.std.proofs.Common.{sym, arith}
use Rattle.helix_output.proofs.RowCells.{length-fits}
use Rattle.helix_output.proofs.Stops.{not_both}
use Rattle.helix_output.proofs.fitting.fits_fields.Goals as goal

pub returns-then-len-fields : goal.returns-then-len-fields
returns-then-len-fields c = (
  λ same. absurd (not_both (sym same)),
  λ fits. absurd (omega (
    arith,
    c.if-len-fields.true,
    c.len.ensures,
    length-fits c.args.fields.now c.args.row.now fits,
  )),
)

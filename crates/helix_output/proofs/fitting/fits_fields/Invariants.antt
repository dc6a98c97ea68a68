use Rattle.std.proofs.Common.{◌↔◌, drop}
use Rattle.helix_output.specs.Fitting.{FitsFields}
use Rattle.helix_output.proofs.fitting.fits_fields.Given as goal

abbrev pub invariant-loop-i : goal.invariant-loop-i
invariant-loop-i l = FitsFields (drop l.i l.fields) (drop l.i l.row) ↔ FitsFields l.fields l.row

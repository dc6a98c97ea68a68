use Rattle.std.proofs.Common.{◌≡◌, ◌++◌, take}
use Rattle.std.specs.Prelude.{flat_map}
use Rattle.helix_run.specs.Inner.Rows.{rows_of}
use Rattle.helix_run.specs.Output.{row_text}
use Rattle.helix_run.proofs.csv.csv_text.Given as goal

abbrev pub invariant-loop-cell : goal.invariant-loop-cell
invariant-loop-cell l = l.text.items ≡ l.initial.text.items ++ flat_map row_text (rows_of (take l.cell-index l.cells))

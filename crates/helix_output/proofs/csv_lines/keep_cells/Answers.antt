use Rattle.std.proofs.Common.{ap, arith}
use Rattle.helix_output.specs.Inner.Cells.{end_of}
use Rattle.helix_output.proofs.CellEnds.{short-take, end_short}
use Rattle.helix_output.proofs.csv_lines.keep_cells.Goals as goal

pub returns-clause-short : goal.returns-clause-short
returns-clause-short c =
    rw c.truncate-2.ensures.items (short-take c.args.count 0 c.args.ends.now.items c.requires.short)

pub returns-clause-len : goal.returns-clause-len
returns-clause-len c =
    omega (
      arith,
      c.truncate.ensures.len,
      c.end_of.ensures,
      ap (end_of c.args.count) c.as_slice.ensures.value,
      end_short c.args.count c.args.ends.now.items c.requires.count c.requires.short,
    )

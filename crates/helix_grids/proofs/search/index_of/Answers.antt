use Rattle.std.proofs.Common.{FitsSigned, to_z-of_z}
use Rattle.std.specs.Int.{w128}
use Rattle.helix_grids.proofs.Ascending.{missing_where_searched}
use Rattle.helix_grids.proofs.search.index_of.Goals as goal

pub returns-in-Err-clause-missing : goal.returns-in-Err-clause-missing
returns-in-Err-clause-missing c =
    let fits : FitsSigned w128 c.args.value = c.ranges.value in
    missing_where_searched c.args.values.now c.args.value c.in-Err.field-0 c.requires
    (simp to_z-of_z at c.in-Err.ensures.position)

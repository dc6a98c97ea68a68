use Rattle.std.proofs.Common.{FitsSigned}
use Rattle.std.specs.Int.{w128}
use Rattle.std.proofs.lemmas.Int.{to_z-of_z}
use Rattle.helix_ladders.proofs.UnitsOfTime.{unit_greatest}
use Rattle.helix_ladders.proofs.calendar_ladder.unit_to.Goals as goal

pub returns : goal.returns
returns c =
    let fits : FitsSigned w128 c.args.to = c.ranges.to in
    let fits_result : FitsSigned w128 c.multiple_to.result = record { sfits = c.multiple_to.type_inv } in
    rw to_z-of_z (unit_greatest c.args.level c.requires.unit c.args.to _ c.requires.begun c.requires.ends
    (simp to_z-of_z at c.multiple_to.ensures))

use Rattle.std.proofs.Common.{rules, FitsSigned, to_z-of_z}
use Rattle.std.specs.Int.{w128}
use Rattle.helix_grids.proofs.Windows.{later_max, least_on, least_on_and_off}
use Rattle.helix_grids.proofs.first.first_in.Goals as goal

pub returns-in-None : goal.returns-in-None
returns-in-None g c =
    let bound : FitsSigned w128 c.args.bound = c.ranges.bound in
    let least : FitsSigned w128 c.args.window.least = search rules in
    let most : FitsSigned w128 c.args.window.most = search rules in
    let from : FitsSigned w128 c.max-from.result = search rules in
    least_on _ _ _ _ _ c.requires.from_low (later_max _ _ _ (simp to_z-of_z at c.max-from.ensures.value)) c.in-None.is
    (simp to_z-of_z at c.first_on.ensures)

pub returns-in-Some : goal.returns-in-Some
returns-in-Some g c =
    let bound : FitsSigned w128 c.args.bound = c.ranges.bound in
    let least : FitsSigned w128 c.args.window.least = search rules in
    let most : FitsSigned w128 c.args.window.most = search rules in
    let from : FitsSigned w128 c.max-from.result = search rules in
    least_on_and_off _ _ _ _ _ c.requires.from_low (later_max _ _ _ (simp to_z-of_z at c.max-from.ensures.value)) _
    c.in-Some.is (simp to_z-of_z at c.first_on_and_off.ensures)

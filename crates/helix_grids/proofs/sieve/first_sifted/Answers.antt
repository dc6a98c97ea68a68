use Rattle.std.proofs.Common.{rules, FitsSigned, to_z-of_z}
use Rattle.std.specs.Int.{w128}
use Rattle.helix_grids.proofs.Sieves.{first_or_next}
use Rattle.helix_grids.proofs.sieve.first_sifted.Goals as goal

pub returns : goal.returns
returns g c =
    let bound : FitsSigned w128 c.args.bound = c.ranges.bound in
    let fits : FitsSigned w128 c.in-Some.first = search rules in
    first_or_next _ _ _ c.args.next.now c.args.bound c.in-Some.first _ (simp to_z-of_z at c.in-Some.ensures)
    c.requires.next (simp to_z-of_z at c.or_next.ensures)

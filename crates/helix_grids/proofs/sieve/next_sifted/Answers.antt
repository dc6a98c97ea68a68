use Rattle.std.proofs.Common.{rules, pos, ◌+ℤ◌, FitsSigned, to_z-of_z}
use Rattle.std.specs.Int.{w128}
use Rattle.helix_grids.specs.Inner.Sieve.{IsSifted}
use Rattle.helix_grids.proofs.LeastValues.{from_next}
use Rattle.helix_grids.proofs.Sieves.{first_or_next}
use Rattle.helix_grids.proofs.sieve.next_sifted.Goals as goal

pub returns : goal.returns
returns g c =
    let value : FitsSigned w128 c.args.value = c.ranges.value in
    let fits : FitsSigned w128 c.in-Some.first = search rules in
    from_next (IsSifted (g.S.Scale.ladder c.args.scale.now) c.args.window c.args.excluded.now) c.args.value _
    (first_or_next _ _ _ c.args.next.now (c.args.value +ℤ pos 1) c.in-Some.first _ (simp to_z-of_z at c.in-Some.ensures)
    c.requires.next (simp to_z-of_z at c.or_next.ensures))

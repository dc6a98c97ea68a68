use Rattle.std.proofs.Common.{rules, ◌<ℤ◌, pos, ◌+ℤ◌, FitsSigned, to_z-of_z, arith}
use Rattle.std.specs.Int.{w128}
use Rattle.std.proofs.lemmas.Int.{ints}
use Rattle.helix_grids.specs.Inner.Sieve.{IsSifted}
use Rattle.helix_grids.proofs.LeastValues.{from_next}
use Rattle.helix_grids.proofs.OnAndOff.{next_fits}
use Rattle.helix_grids.proofs.sieve.first_sifted_above.Goals as goal

pub returns-then-value-window : goal.returns-then-value-window
returns-then-value-window g c =
    let value : FitsSigned w128 c.args.value = c.ranges.value in
    let most : FitsSigned w128 c.args.window.most = search rules in
    let below : c.args.value <ℤ c.args.window.most = grind (arith, ints) in
    let next : FitsSigned w128 (c.args.value +ℤ pos 1) = next_fits _ _ below value most in
    from_next (IsSifted (g.S.Scale.ladder c.args.scale.now) c.args.window c.args.excluded.now) c.args.value _
    (simp to_z-of_z at c.first_sifted.ensures)

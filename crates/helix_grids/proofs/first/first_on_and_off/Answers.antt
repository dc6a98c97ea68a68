use Rattle.std.proofs.Common.{rules, ◌≤ℤ◌, ◌<ℤ◌, pos, ◌+ℤ◌, refl, FitsSigned, to_z-of_z, arith}
use Rattle.std.specs.Int.{w128}
use Rattle.std.proofs.lemmas.Int.{ints}
use Rattle.std.proofs.lemmas.Bool.{false≢true}
use Rattle.helix_grids.proofs.OnAndOff.{found, searched_after, none_after, next_fits, comes_nearer}
use Rattle.helix_grids.proofs.first.first_on_and_off.Goals as goal

pub returns-then-not-on : goal.returns-then-not-on
returns-then-not-on g c =
    let bound : FitsSigned w128 c.args.bound = c.ranges.bound in
    let most : FitsSigned w128 c.args.most = c.ranges.most in
    let from : FitsSigned w128 c.loop-from.from = search rules in
    let fits : FitsSigned w128 c.in-Some.value = search rules in
    rw to_z-of_z (found _ _ _ _ _ _ (simp to_z-of_z at c.loop-from.invariant) _ (simp to_z-of_z at c.in-Some.ensures)
    (λ on. false≢true ((simp to_z-of_z at c.if-not-on.ensures.1) on)))

pub loop-from-smaller : goal.loop-from-smaller
loop-from-smaller g c =
    let bound : FitsSigned w128 c.args.bound = c.ranges.bound in
    let most : FitsSigned w128 c.args.most = c.ranges.most in
    let from : FitsSigned w128 c.loop-from.from = search rules in
    let fits : FitsSigned w128 c.in-Some.value = search rules in
    let below : c.in-Some.value <ℤ c.args.most = grind (arith, ints) in
    let next : FitsSigned w128 (c.in-Some.value +ℤ pos 1) = next_fits _ _ below fits most in
    simp to_z-of_z (comes_nearer _ _ _ _ _ (simp to_z-of_z at c.in-Some.ensures) below)

pub loop-from-preserved : goal.loop-from-preserved
loop-from-preserved g c =
    let bound : FitsSigned w128 c.args.bound = c.ranges.bound in
    let most : FitsSigned w128 c.args.most = c.ranges.most in
    let from : FitsSigned w128 c.loop-from.from = search rules in
    let fits : FitsSigned w128 c.in-Some.value = search rules in
    let below : c.in-Some.value <ℤ c.args.most = grind (arith, ints) in
    let next : FitsSigned w128 (c.in-Some.value +ℤ pos 1) = next_fits _ _ below fits most in
    simp to_z-of_z (searched_after _ _ _ _ _ _ (simp to_z-of_z at c.loop-from.invariant) _
    (simp to_z-of_z at c.in-Some.ensures) (simp to_z-of_z at c.if-not-on.ensures.0 refl))

pub returns-then-most-value : goal.returns-then-most-value
returns-then-most-value g c =
    let bound : FitsSigned w128 c.args.bound = c.ranges.bound in
    let most : FitsSigned w128 c.args.most = c.ranges.most in
    let from : FitsSigned w128 c.loop-from.from = search rules in
    let fits : FitsSigned w128 c.in-Some.value = search rules in
    let past : c.args.most ≤ℤ c.in-Some.value = grind (arith, ints) in
    none_after _ _ _ _ _ _ (simp to_z-of_z at c.loop-from.invariant) _ past (simp to_z-of_z at c.in-Some.ensures)
    (simp to_z-of_z at c.if-not-on.ensures.0 refl)

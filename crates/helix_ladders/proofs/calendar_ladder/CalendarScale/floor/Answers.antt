use Rattle.std.proofs.Common.{◌≡◌, FitsSigned, subst, sym, arith}
use Rattle.std.specs.Int.{w128}
use Rattle.std.proofs.lemmas.Int.{ints, clamps, to_z-of_z}
use Rattle.helix_ladders.specs.Ladders.{moments_ladder}
use Rattle.helix_ladders.specs.Scale.{IsGreatest, IsAtOrBefore}
use Rattle.helix_ladders.proofs.Raised.{greatest_lowered}
use Rattle.helix_ladders.proofs.calendar_ladder.CalendarScale.floor.Goals as goal

pub returns-then-level-le-DAY_LEVEL-clause-some : goal.returns-then-level-le-DAY_LEVEL-clause-some
returns-then-level-le-DAY_LEVEL-clause-some c =
    let fits : FitsSigned w128 c.unit_to.result = record { sfits = c.unit_to.type_inv } in
    let to : FitsSigned w128 c.min-to.result = record { sfits = c.min-to.type_inv } in
    rw to_z-of_z (greatest_lowered moments_ladder c.args.level c.args.bound c.min-to.result
    (λ w to_high within. omega (arith, ints, clamps)) (λ v below. omega (arith, ints, clamps)) c.unit_to.result
    (simp to_z-of_z at c.unit_to.ensures))

pub returns-then-level-eq5-clause-some : goal.returns-then-level-eq5-clause-some
returns-then-level-eq5-clause-some c =
    let fits : FitsSigned w128 c.month_to.result = record { sfits = c.month_to.type_inv } in
    let to : FitsSigned w128 c.min-to.result = record { sfits = c.min-to.type_inv } in
    rw to_z-of_z (subst (λ level. IsGreatest (IsAtOrBefore moments_ladder level c.args.bound) c.month_to.result)
    (sym c.if-level-eq5.true)
    (greatest_lowered moments_ladder 5 c.args.bound c.min-to.result (λ w to_high within. omega (arith, ints, clamps))
    (λ v below. omega (arith, ints, clamps)) c.month_to.result (simp to_z-of_z at c.month_to.ensures)))

pub returns-else-level-eq5-clause-some : goal.returns-else-level-eq5-clause-some
returns-else-level-eq5-clause-some c =
    let fits : FitsSigned w128 c.year_to.result = record { sfits = c.year_to.type_inv } in
    let to : FitsSigned w128 c.min-to.result = record { sfits = c.min-to.type_inv } in
    let six : 6 ≡ c.args.level = omega arith in
    rw to_z-of_z (subst (λ level. IsGreatest (IsAtOrBefore moments_ladder level c.args.bound) c.year_to.result) six
    (greatest_lowered moments_ladder 6 c.args.bound c.min-to.result (λ w to_high within. omega (arith, ints, clamps))
    (λ v below. omega (arith, ints, clamps)) c.year_to.result (simp to_z-of_z at c.year_to.ensures)))

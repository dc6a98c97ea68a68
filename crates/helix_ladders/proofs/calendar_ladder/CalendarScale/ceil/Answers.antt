use Rattle.std.proofs.Common.{◌≡◌, IfSome, subst, sym, arith}
use Rattle.std.proofs.lemmas.Int.{ints, clamps}
use Rattle.helix_ladders.specs.Ladders.{moments_ladder}
use Rattle.helix_ladders.specs.Scale.{IsLeast, IsAtOrAfter}
use Rattle.helix_ladders.proofs.Raised.{some_raised}
use Rattle.helix_ladders.proofs.calendar_ladder.CalendarScale.ceil.Goals as goal

pub returns-then-level-eq5-clause-some : goal.returns-then-level-eq5-clause-some
returns-then-level-eq5-clause-some c =
    subst (λ level. IfSome c.month_from.result (IsLeast (IsAtOrAfter moments_ladder level c.args.bound)))
    (sym c.if-level-eq5.true)
    (some_raised moments_ladder 5 c.args.bound _ (λ w from_low reached. omega (arith, ints, clamps))
    (λ v above. omega (arith, ints, clamps)) _ c.month_from.ensures.some)

pub returns-else-level-eq5-clause-some : goal.returns-else-level-eq5-clause-some
returns-else-level-eq5-clause-some c =
    let six : 6 ≡ c.args.level = omega arith in
    subst (λ level. IfSome c.year_from.result (IsLeast (IsAtOrAfter moments_ladder level c.args.bound))) six
    (some_raised moments_ladder 6 c.args.bound _ (λ w from_low reached. omega (arith, ints, clamps))
    (λ v above. omega (arith, ints, clamps)) _ c.year_from.ensures.some)

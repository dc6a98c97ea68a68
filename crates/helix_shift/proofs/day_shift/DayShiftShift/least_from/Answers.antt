use Rattle.std.proofs.Common.{◌≡◌, pos, ℤ, to_z, of_z, subst, arith}
use Rattle.std.proofs.lemmas.Int.{ints, to_z-of_z}
use Rattle.std.specs.Int.{w128}
use Rattle.helix_ladders.specs.Calendar.{last_moment, midnight}
use Rattle.helix_ladders.specs.Rising.{IsShiftedTo}
use Rattle.helix_ladders.specs.Scale.{IsLeast}
use Rattle.helix_ladders.specs.Shift.{shifted}
use Rattle.helix_ladders.specs.declared.offset.Offset.{Offset}
use Rattle.helix_shift.specs.Inner.Days.{IsFirstDay, IsOutOfReach}
use Rattle.helix_shift.proofs.FirstDays.{first_day_least, no_moment}
use Rattle.helix_shift.proofs.day_shift.DayShiftShift.least_from.Goals as goal

pub returns-in-Some-clause-some : goal.returns-in-Some-clause-some
returns-in-Some-clause-some c =
    let first = subst (λ target. IsFirstDay c.self.inside.offset target c.in-Some.day)
    (to_z-of_z w128 c.args.target c.ranges.target) c.in-Some.ensures.some in
    let least = first_day_least c.self.inside.offset c.args.target c.self.invariant c.in-Some.day first in
    let seen = subst (λ (offset : Offset). IsLeast (IsShiftedTo (pos 0) (pos last_moment) (λ v. shifted offset v)
    c.args.target) (midnight c.in-Some.day)) c.self.view_is least in
    let same : midnight c.in-Some.day ≡ to_z w128 (of_z w128 c.from.result) = omega (arith, ints) in
    subst (λ at. IsLeast (IsShiftedTo (pos 0) (pos last_moment) (λ v. shifted c.args.self.now v) c.args.target) at) same
    seen

pub returns-in-None-clause-none : goal.returns-in-None-clause-none
returns-in-None-clause-none c =
    let beyond = subst (λ target. IsOutOfReach c.self.inside.offset target)
    (to_z-of_z w128 c.args.target c.ranges.target) c.in-None.ensures.none in
    let none = no_moment c.self.inside.offset c.args.target c.self.invariant beyond in
    subst (λ (offset : Offset). (v : ℤ) → ¬ IsShiftedTo (pos 0) (pos last_moment) (λ v. shifted offset v)
    c.args.target v) c.self.view_is none

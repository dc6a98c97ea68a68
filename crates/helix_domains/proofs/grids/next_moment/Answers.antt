use Rattle.std.proofs.Common.{subst, sym, ◌∙◌, refl, rules, FitsSigned, to_z-of_z}
use Rattle.std.specs.Int.{w64, w128}
use Rattle.helix_grids.specs.Tests.{IsMember}
use Rattle.helix_domains.specs.Near.{IsLeastAbove}
use Rattle.helix_domains.specs.declared.line.Line.TheVariants.{Moments}
use Rattle.helix_domains.specs.Inner.Line.{ladder_on, IsOnLine}
use Rattle.helix_domains.proofs.OnLines.{from_line}
use Rattle.helix_domains.proofs.NextOnLines.{member_at, next_on, none_next}
use Rattle.helix_domains.proofs.grids.next_moment.Goals as goal

pub unreachable-requires : goal.unreachable-requires
unreachable-requires c =
    let on = from_line Moments (IsMember (ladder_on Moments) c.args.grid.now.level c.args.grid.now.tests)
    c.args.slot.now c.requires in
    c.in_default.ensures.none on.0 (c.view.ensures ∙ on.1)

pub after-requires : goal.after-requires
after-requires c =
    let fits : FitsSigned w128 c.in-Some.at = search rules in
    simp to_z-of_z (member_at Moments (IsMember (ladder_on Moments) c.args.grid.now.level c.args.grid.now.tests)
    c.args.slot.now c.in-Some.at (sym c.view.ensures ∙ c.in-Some.ensures.some) c.requires)

pub returns-in-Some-after : goal.returns-in-Some-after
returns-in-Some-after c =
    let fits : FitsSigned w128 c.in-Some.at = search rules in
    let answer : FitsSigned w128 c.in-Some-after.next = search rules in
    let short : FitsSigned w64 c.in-Some-after.next = search rules in
    let least = simp to_z-of_z at c.in-Some-after.ensures in
    subst (IsLeastAbove (IsOnLine Moments (IsMember (ladder_on Moments) c.args.grid.now.level c.args.grid.now.tests))
    c.args.slot.now)
    (sym c.set.ensures)
    (simp to_z-of_z (next_on Moments (IsMember (ladder_on Moments) c.args.grid.now.level c.args.grid.now.tests)
    c.in-Some.at
    c.args.slot.now (sym c.view.ensures ∙ c.in-Some.ensures.some) c.in-Some-after.next least))

pub returns-in-None : goal.returns-in-None
returns-in-None c =
    let fits : FitsSigned w128 c.in-Some.at = search rules in
    let none = simp to_z-of_z at c.in-None.ensures in (
      refl,
      none_next Moments (IsMember (ladder_on Moments) c.args.grid.now.level c.args.grid.now.tests) c.in-Some.at
          c.args.slot.now (sym c.view.ensures ∙ c.in-Some.ensures.some) none,
    )

use Rattle.std.proofs.Common.{subst, sym, rules, FitsSigned, to_z-of_z}
use Rattle.std.specs.Int.{w128}
use Rattle.helix_grids.specs.Tests.{IsMember}
use Rattle.helix_domains.specs.declared.line.Line.TheVariants.{Numbers}
use Rattle.helix_domains.specs.Inner.Line.{ladder_on, IsOnLine}
use Rattle.helix_words.specs.Questions.{IsLeastAdmitted}
use Rattle.helix_domains.proofs.OnLines.{least_on, small_member}
use Rattle.helix_domains.proofs.grids.first_number.Goals as goal

pub returns : goal.returns
returns c =
    let fits : FitsSigned w128 c.in-Some.bound = search rules in
    let answer : FitsSigned w128 c.in-Some-at_or_after.units = search rules in
    let least = simp to_z-of_z at c.in-Some-at_or_after.ensures in
    subst (IsLeastAdmitted (IsOnLine Numbers (IsMember (ladder_on Numbers) c.args.grid.now.level
    c.args.grid.now.tests)) c.args.mark)
    (sym c.set.ensures)
    (simp to_z-of_z (least_on Numbers (IsMember (ladder_on Numbers) c.args.grid.now.level c.args.grid.now.tests)
    (small_member Numbers c.args.grid.now.level c.args.grid.now.tests) c.args.mark c.in-Some.bound
    c.in-Some-at_or_after.units c.in-Some.ensures.some least))

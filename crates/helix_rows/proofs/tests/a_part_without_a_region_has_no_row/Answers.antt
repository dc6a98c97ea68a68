use Rattle.std.proofs.Common.{sym, subst}
use Rattle.helix_rows.proofs.Numbered.{numbers_sought}
use Rattle.helix_rows.specs.Inner.Listing.{AreOfTwo}
use Rattle.helix_rows.proofs.tests.a_part_without_a_region_has_no_row.Goals as goal

pub seek_after-requires-clause-cells : goal.seek_after-requires-clause-cells
seek_after-requires-clause-cells g c =
    numbers_sought c.step.new.self.regions c.step.new.self.parts c.fill.new.row
    (subst AreOfTwo (sym c.step.ensures.parts.parts) c.in_ok-walk.ensures.parts) c.fill.ensures.numbers

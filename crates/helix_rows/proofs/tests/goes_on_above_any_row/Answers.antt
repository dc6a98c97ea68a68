use Rattle.helix_rows.proofs.Numbered.{numbers_sought}
use Rattle.helix_rows.proofs.tests.goes_on_above_any_row.Goals as goal

pub seek_after-requires-clause-cells : goal.seek_after-requires-clause-cells
seek_after-requires-clause-cells g c =
    numbers_sought c.loop-place.walk.regions c.loop-place.walk.parts c.fill.new.row c.loop-place.invariant.parts
    c.fill.ensures.numbers

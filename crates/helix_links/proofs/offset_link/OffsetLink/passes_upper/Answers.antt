use Rattle.std.proofs.Common.{arith}
use Rattle.std.proofs.lemmas.Int.{ints, clamps}
use Rattle.helix_values.specs.View.{cell_of}
use Rattle.helix_links.proofs.OffsetAnswers.{passes_same}
use Rattle.helix_links.proofs.offset_link.OffsetLink.passes_upper.Goals as goal

pub returns : goal.returns
returns c = passes_same c.args.self.now.quantity c.as_slice.result.now c.args.self.now.bounds c.as_slice.ensures
    c.range-range.result.low c.range-range.result.high c.range-range.ensures.low c.range-range.ensures.high _ _
    (cell_of c.args.parent) (cell_of c.args.child) c.passes_upper.result (omega (arith, ints, clamps, c.whole.ensures))
    (omega (arith, ints, clamps, c.whole-2.ensures))
    c.passes_upper.ensures

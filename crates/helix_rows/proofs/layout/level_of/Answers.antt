use Rattle.std.proofs.Common.{sym, subst}
use Rattle.std.specs.List.{Contains}
use Rattle.helix_rows.proofs.Layouts.{any_more}
use Rattle.helix_rows.proofs.layout.level_of.Goals as goal

pub loop-number-preserved : goal.loop-number-preserved
loop-number-preserved c =
    any_more (λ part. Contains part.fields c.args.field) c.args.parts.now c.loop-number.number
    c.index-parts-number.result c.loop-number-test.true c.loop-number.invariant
    (λ inside. c.in_default.ensures.none (subst (λ fields. Contains fields c.args.field) (sym c.as_slice.ensures)
    (subst (λ part. Contains part.fields c.args.field) (sym c.index-parts-number.is) inside)))

use Rattle.std.proofs.Common.{arith}
use Rattle.helix_json.proofs.Decimal.{above_more, product_more}
use Rattle.helix_json.proofs.units.scaled.Goals as goal

pub returns-then-product-gt-MAX_UNITS-clause-above : goal.returns-then-product-gt-MAX_UNITS-clause-above
returns-then-product-gt-MAX_UNITS-clause-above c =
    above_more _ c.loop-done.product c.args.number c.loop-done.done c.args.power c.loop-done.invariant.product
    (omega arith) (omega arith)

pub loop-done-preserved : goal.loop-done-preserved
loop-done-preserved c = record {
  within = omega arith;
  product = product_more c.loop-done.product c.args.number c.loop-done.done c.loop-done.invariant.product;
  bound = omega arith;
}

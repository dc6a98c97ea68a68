use Rattle.std.proofs.Common.{arith}
use Rattle.helix_base.specs.Inner.ScalarLaws.{scalar_at}
use Rattle.helix_output.specs.Csv.{doubled}
use Rattle.helix_output.proofs.Characters.{text_further}
use Rattle.helix_output.proofs.put.put_csv_string.Goals as goal

pub put_doubled-requires-clause-scalar : goal.put_doubled-requires-clause-scalar
put_doubled-requires-clause-scalar c =
    scalar_at c.args.text.now c.loop-code.code-index c.requires.scalars c.loop-code-test.true

pub loop-code-preserved : goal.loop-code-preserved
loop-code-preserved c = record {
  bytes = text_further doubled c.put.new.out.items c.loop-code.out.items c.put_doubled.new.out.items c.args.text.now
      c.loop-code.code-index c.loop-code-test.true c.loop-code.invariant.bytes c.put_doubled.ensures.bytes;
  len = omega (arith, c.loop-code.invariant.len, c.put_doubled.ensures.len);
  capacity = omega (arith, c.loop-code.invariant.capacity, c.put_doubled.ensures.capacity);
}

use Rattle.std.proofs.Common.{arith}
use Rattle.json.specs.Print.{escape_byte}
use Rattle.helix_output.proofs.Characters.{text_further}
use Rattle.helix_output.proofs.put.put_json_string.Goals as goal

pub loop-code-preserved : goal.loop-code-preserved
loop-code-preserved c = record {
  bytes = text_further escape_byte c.put.new.out.items c.loop-code.out.items c.put_escaped.new.out.items
      c.args.text.now c.loop-code.code-index c.loop-code-test.true c.loop-code.invariant.bytes
      c.put_escaped.ensures.bytes;
  len = omega (arith, c.loop-code.invariant.len, c.put_escaped.ensures.len);
  capacity = omega (arith, c.loop-code.invariant.capacity, c.put_escaped.ensures.capacity);
}

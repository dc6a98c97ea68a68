use Rattle.std.proofs.Common.{◌<◌, length, arith}
use Rattle.helix_values.specs.Codes.{sedol_weights}
use Rattle.helix_values.proofs.Checksums.{weighted_sum-drop}
use Rattle.helix_values.proofs.codes.sedol_sum.Goals as goal

pub loop-i-preserved : goal.loop-i-preserved
loop-i-preserved c =
    let within : c.loop-i.i < length c.args.word.now = omega arith in
    let weighted : c.loop-i.i < length sedol_weights = omega arith in
    record {
      whole = grind (arith, weighted_sum-drop sedol_weights c.args.word.now c.loop-i.i weighted within);
      small = omega (arith, c.weighted-sum.ensures.small);
    }

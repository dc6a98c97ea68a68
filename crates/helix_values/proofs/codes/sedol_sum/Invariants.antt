use Rattle.std.proofs.Common.{◌≡◌, ◌+◌, ◌*◌, ◌^◌, ◌≤◌, map, drop}
use Rattle.helix_base.specs.Weights.{weighted_sum}
use Rattle.helix_values.specs.Codes.{value_of, sedol_weights}
use Rattle.helix_values.proofs.codes.sedol_sum.Given as goal

abbrev pub invariant-loop-i : goal.invariant-loop-i
invariant-loop-i l = record {
  whole : l.sum + weighted_sum (drop l.i sedol_weights) (map value_of (drop l.i l.word))
      ≡ weighted_sum sedol_weights (map value_of l.word);
  small : l.sum ≤ l.i * 2 ^ 36;
}

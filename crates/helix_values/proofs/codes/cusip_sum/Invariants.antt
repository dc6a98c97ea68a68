use Rattle.std.proofs.Common.{◌≡◌, ◌+◌, ◌*◌, ◌^◌, ◌≤◌, false, map, drop}
use Rattle.helix_values.specs.Codes.{value_of, doubled_sum}
use Rattle.helix_values.proofs.codes.cusip_sum.Given as goal

abbrev pub invariant-loop-c : goal.invariant-loop-c
invariant-loop-c l = record {
  whole : l.sum + doubled_sum l.twice (map value_of (drop l.c-index l.word)) ≡ doubled_sum false (map value_of l.word);
  small : l.sum ≤ l.c-index * 2 ^ 34;
}

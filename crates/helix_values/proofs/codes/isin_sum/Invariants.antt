use Rattle.std.proofs.Common.{◌≡◌, ◌+◌, ◌-◌, ◌*◌, ◌^◌, ◌≤◌, false, reverse, take, length}
use Rattle.std.specs.List.{flat_map}
use Rattle.helix_values.specs.Codes.{digits_of, doubled_sum}
use Rattle.helix_values.proofs.codes.isin_sum.Given as goal

abbrev pub invariant-loop-i : goal.invariant-loop-i
invariant-loop-i l = record {
  whole : l.sum + doubled_sum l.twice (reverse (flat_map digits_of (take (length l.word - l.i) l.word)))
      ≡ doubled_sum false (reverse (flat_map digits_of l.word));
  small : l.sum ≤ l.i * 2 ^ 36;
}

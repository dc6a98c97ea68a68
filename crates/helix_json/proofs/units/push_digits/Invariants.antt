use Rattle.std.proofs.Common.{ℕ, ◌+◌, ◌≤◌, ◌^◌, take}
use Rattle.helix_json.specs.Numbers.{digits_from}
use Rattle.helix_json.specs.Inner.Pieces.{IsReduced}
use Rattle.helix_json.proofs.units.push_digits.Given as goal

abbrev pub invariant-loop-digit : goal.invariant-loop-digit
invariant-loop-digit l = record {
  bound : l.reduced.number ≤ 10 ^ 35;
  zeros : l.reduced.zeros ≤ l.initial.reduced.zeros + l.digit-index;
  reduced : (value : ℕ) → IsReduced value l.initial.reduced.number l.initial.reduced.zeros
      → IsReduced (digits_from value (take l.digit-index l.digits)) l.reduced.number l.reduced.zeros;
}

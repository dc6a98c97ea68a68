use Rattle.std.proofs.Common.{ℕ, ◌+◌, ◌≤◌, take}
use Rattle.helix_json.specs.Numbers.{digits_from}
use Rattle.helix_references.specs.Inner.Wholes.{EndsIn}
use Rattle.helix_references.proofs.whole.push_digits.Given as goal

abbrev pub invariant-loop-digit : goal.invariant-loop-digit
invariant-loop-digit l = record {
  zeros : l.ending.zeros ≤ l.initial.ending.zeros + l.digit-index;
  ends : (value : ℕ) → EndsIn value l.initial.ending.some l.initial.ending.zeros
      → EndsIn (digits_from value (take l.digit-index l.digits)) l.ending.some l.ending.zeros;
}

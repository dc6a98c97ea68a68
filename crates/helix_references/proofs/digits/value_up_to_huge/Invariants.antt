use Rattle.std.proofs.Common.{◌≡◌, take, min, ◌^◌}
use Rattle.helix_json.specs.Numbers.{digits_value}
use Rattle.helix_references.proofs.digits.value_up_to_huge.Given as goal

abbrev pub invariant-loop-digit : goal.invariant-loop-digit
invariant-loop-digit l = l.value ≡ min (digits_value (take l.digit-index l.digits)) (2 ^ 100)

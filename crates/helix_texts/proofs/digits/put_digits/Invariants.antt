use Rattle.std.proofs.Common.{◌≡◌, ◌+◌, ◌-◌, ◌/◌, ◌^◌, ◌≤◌, ◌++◌, take}
use Rattle.helix_texts.specs.Texts.{last_digits}
use Rattle.helix_texts.proofs.digits.put_digits.Given as goal

abbrev pub invariant-loop-done : goal.invariant-loop-done
invariant-loop-done l = record {
  within : l.done ≤ l.width;
  rest : l.rest ≡ l.number / 10 ^ l.done;
  text : take (l.at + l.width) l.out ≡ take (l.at + l.width - l.done) l.initial.out ++ last_digits l.done l.number;
}

abbrev pub decreases-loop-done : goal.decreases-loop-done
decreases-loop-done l = l.width - l.done

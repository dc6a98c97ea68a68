use Rattle.std.proofs.Common.{◌≡◌, ◌≤◌, take}
use Rattle.std.specs.Str.Parse.{digits_value}
use Rattle.helix_command.proofs.values.number_within.Given as goal

abbrev pub invariant-loop-code : goal.invariant-loop-code
invariant-loop-code l = (l.value ≡ digits_value 10 (take l.code-index l.text)) × (l.value ≤ l.most)

use Rattle.std.proofs.Common.{◌≡◌, take}
use Rattle.helix_profile.specs.Change.{numbered}
use Rattle.helix_profile.proofs.profile.constraints_of.Given as goal

abbrev pub invariant-loop-number : goal.invariant-loop-number
invariant-loop-number l = l.chosen ≡ numbered l.constraints (take l.number-index l.numbers)

use Rattle.std.proofs.Common.{◌≡◌, ◌+◌, drop}
use Rattle.helix_run.specs.Inner.Name.{name_length}
use Rattle.helix_run.proofs.profile.name_length.Given as goal

abbrev pub invariant-loop-i : goal.invariant-loop-i
invariant-loop-i l = name_length l.bytes ≡ l.i + name_length (drop l.i l.bytes)

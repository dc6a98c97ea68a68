use Rattle.std.proofs.Common.{◌≡◌, ◌++◌, None, drop}
use Rattle.helix_regex.specs.Inner.Sets.{joined_from}
use Rattle.helix_regex.proofs.joined.joined.Given as goal

abbrev pub invariant-loop-range : goal.invariant-loop-range
invariant-loop-range l = l.ranges ++ joined_from l.current (drop l.range-index l.sorted) ≡ joined_from None l.sorted

use Rattle.std.proofs.Common.{drop}
use Rattle.helix_regex.proofs.Gaps.{GapsLeft}
use Rattle.helix_regex.proofs.sets.push_gaps.Given as goal

abbrev pub invariant-loop-range : goal.invariant-loop-range
invariant-loop-range l = GapsLeft l.next (drop l.range-index l.ranges) l.ranges l.initial.raw.items l.raw.items

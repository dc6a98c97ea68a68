use Rattle.std.proofs.Common.{◌≡◌, ℕ, ◌≤◌, take}
use Rattle.helix_base.specs.Ranges.{in_ranges}
use Rattle.helix_compile.specs.Inner.RangeEnds.{IsEndAmong}
use Rattle.helix_compile.proofs.step.ranges_alike_up_to.Given as goal

abbrev pub invariant-loop-range : goal.invariant-loop-range
invariant-loop-range l = (l.code ≤ l.last)
    × ((other : ℕ) → l.code ≤ other → other ≤ l.last
    → in_ranges (take l.range-index l.ranges) other ≡ in_ranges (take l.range-index l.ranges) l.code)
    × IsEndAmong l.ranges l.last

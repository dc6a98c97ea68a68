use Rattle.std.proofs.Common.{◌≡◌, true, drop, ℕ, ◌≤◌}
use Rattle.std.specs.Prelude.{IsTrue}
use Rattle.helix_base.specs.Ranges.{are_in_order, in_ranges}
use Rattle.helix_base.proofs.ranges.next_at_or_after.Given as goal

-- what is listed and high enough is in a range that is left
abbrev pub invariant-loop-range : goal.invariant-loop-range
invariant-loop-range l =
    (are_in_order (drop l.range-index l.ranges) ≡ true)
    × ((other : ℕ) → IsTrue (in_ranges l.ranges other) → l.code ≤ other
    → IsTrue (in_ranges (drop l.range-index l.ranges) other))
    × ((other : ℕ) → IsTrue (in_ranges (drop l.range-index l.ranges) other) → IsTrue (in_ranges l.ranges other))

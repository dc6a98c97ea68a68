use Rattle.std.proofs.Common.{ℕ, ◌≤◌, take, Contains}
use Rattle.helix_compile.specs.Inner.RangeEnds.{IsNfaEnd}
use Rattle.helix_compile.specs.Inner.Subsets.{IsReadAlike}
use Rattle.helix_compile.proofs.step.alike_up_to.Given as goal

abbrev pub invariant-loop-number : goal.invariant-loop-number
invariant-loop-number l = (l.code ≤ l.last)
    × ((other : ℕ) → l.code ≤ other → other ≤ l.last → (number : ℕ) → Contains (take l.number-index l.set) number
    → IsReadAlike l.nfa number l.code other)
    × IsNfaEnd l.nfa l.last

use Rattle.std.proofs.Common.{take}
use Rattle.helix_compile.specs.Inner.Subsets.{LeadsTo}
use Rattle.helix_compile.proofs.step.step.Given as goal

abbrev pub invariant-loop-number : goal.invariant-loop-number
invariant-loop-number l = LeadsTo l.nfa (take l.number-index l.set) l.code l.seen

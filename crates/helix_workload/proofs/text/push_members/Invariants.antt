use Rattle.std.proofs.Common.{◌≡◌, ◌++◌, ◌≤◌, ℕ, List}
use Rattle.helix_workload.specs.Workload.{members}
use Rattle.helix_workload.proofs.text.push_members.Given as goal

pub record IsBegun (least left : ℕ) (start now : List ℕ) : Type 0 where
  pub some : 1 ≤ left
  pub within : left ≤ 2000
  pub rest : now ++ members least left ≡ start ++ members least 2000

abbrev pub invariant-loop-left : goal.invariant-loop-left
invariant-loop-left l = IsBegun l.fn.least l.left l.fn.text.items l.text.items

abbrev pub decreases-loop-left : goal.decreases-loop-left
decreases-loop-left l = l.left

use Rattle.std.proofs.Common.{◌-◌, length}
use Rattle.helix_loading.proofs.Filling.{HasFilled}
use Rattle.helix_loading.proofs.set_files.fill_sets.Given as goal

abbrev pub invariant-loop-wanted : goal.invariant-loop-wanted
invariant-loop-wanted g l =
    HasFilled (g.D.Disk.state l.fn.disk) l.fn.draft (g.D.Disk.state l.disk) l.draft l.others

abbrev pub decreases-loop-wanted : goal.decreases-loop-wanted
decreases-loop-wanted g l = 101 - length l.others

use Rattle.std.proofs.Common.{length, ◌-◌, IsSome}
use Rattle.helix_output.proofs.Putting.{HasPut}
use Rattle.helix_output.proofs.writing.put_all.Given as goal

abbrev pub invariant-loop-done : goal.invariant-loop-done
invariant-loop-done g l = HasPut (g.D.Disk.state l.initial.disk) l.bytes l.done (g.D.Disk.state l.disk)
    × IsSome (g.D.Disk.state l.disk).output

abbrev pub decreases-loop-done : goal.decreases-loop-done
decreases-loop-done g l = length l.bytes - l.done

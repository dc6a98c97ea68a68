use Rattle.std.proofs.Common.{◌-◌}
use Rattle.helix_writing.proofs.MostRows.{HasPutMost}
use Rattle.helix_writing.proofs.put.put_most.Given as goal

abbrev pub invariant-loop-count : goal.invariant-loop-count
invariant-loop-count g l = HasPutMost l.fn.format l.fn.limit (g.D.Disk.state l.fn.disk) l.fn.block l.fn.rows l.count
    l.rows l.line l.block (g.D.Disk.state l.disk)

abbrev pub decreases-loop-count : goal.decreases-loop-count
decreases-loop-count g l = l.limit - l.count

use Rattle.helix_writing.proofs.WholeRows.{finish_failed, finished_rows, handed_stop}
use Rattle.helix_writing.proofs.rows.write_rows.Goals as goal

pub returns-in_err-written-clause-writes : goal.returns-in_err-written-clause-writes
returns-in_err-written-clause-writes g c =
    λ start at. handed_stop c.args.file c.args.rows.now.profile start (g.D.Disk.state c.args.disk.now)
    (g.D.Disk.state c.begin_write.new.self) c.in_ok-begin_write.field-0 c.in_ok-begin_write.ensures
    c.from_residual-in_err-written.result c.in_err-written.field-0.0 c.send_rows.new.last _
    c.from_residual-in_err-written.ensures.1 (c.in_err-written.ensures.err start at)

pub returns-in_err-finish-clause-writes : goal.returns-in_err-finish-clause-writes
returns-in_err-finish-clause-writes g c =
    λ start at. finish_failed c.args.file c.args.rows.now.profile start (g.D.Disk.state c.args.disk.now)
    (g.D.Disk.state c.begin_write.new.self) c.in_ok-begin_write.field-0 c.in_ok-begin_write.ensures
    c.in_ok-written.written c.send_rows.new.last _ _ (c.in_ok-written.ensures.ok start at)
    c.in_err-finish.field-0.0 c.from_residual-in_err-finish.result c.from_residual-in_err-finish.ensures.1
    c.in_err-finish.ensures

pub returns-clause-writes : goal.returns-clause-writes
returns-clause-writes g c =
    λ start at. finished_rows c.args.file c.args.rows.now.profile start (g.D.Disk.state c.args.disk.now)
    (g.D.Disk.state c.begin_write.new.self) c.in_ok-begin_write.field-0 c.in_ok-begin_write.ensures
    c.in_ok-written.written c.send_rows.new.last _ _ (c.in_ok-written.ensures.ok start at) c.in_ok-finish.field-0
    c.in_ok-finish.ensures

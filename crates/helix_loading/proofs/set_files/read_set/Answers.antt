use Rattle.std.proofs.Common.{arith}
use Rattle.helix_loading.proofs.Handing.{err_gives}
use Rattle.helix_loading.proofs.NamedFiles.{no_members}
use Rattle.helix_loading.proofs.set_files.read_set.Goals as goal

pub returns-clause-err : goal.returns-clause-err
returns-clause-err g c =
    err_gives _ _ c.list_set.result
    (λ stop stops. no_members (g.D.Disk.state c.args.disk.now) (g.D.Disk.state c.read_named.new.disk)
    (record { name = c.args.name.now; kind = c.args.kind; place = c.args.place.now }) c.args.count
    c.in_ok-bytes.bytes.items (omega (arith, c.requires, c.if-count-eq-MOST_FILES.false)) c.in_ok-bytes.ensures.same
    c.in_ok-bytes.ensures.ok stop (stops c.args.name.now))
    c.list_set.ensures.err

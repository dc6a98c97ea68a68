use Rattle.std.proofs.Common.{subst, sym}
use Rattle.helix_loading.specs.Inner.Stages.{AreOfFile}
use Rattle.helix_loading.proofs.Stops.{loads_before, no_file, still_there, stopped}
use Rattle.helix_loading.proofs.loading.load.Goals as goal

pub returns-in_err-bytes : goal.returns-in_err-bytes
returns-in_err-bytes g c =
    stopped (g.D.Disk.state c.args.disk.now) (g.D.Disk.state c.read_named.new.disk) c.args.name.now c.args.alphabet
    c.args.violate c.in_err-bytes.field-0.0 c.in_err-bytes.ensures.only_reads
    (no_file (g.D.Disk.state c.args.disk.now) c.args.name.now c.args.alphabet c.args.violate c.in_err-bytes.field-0.0
    (g.D.Disk.state c.read_named.new.disk) c.in_err-bytes.ensures.err)
    c.from_residual.result c.from_residual.ensures.1

pub returns : goal.returns
returns g c =
    loads_before (g.D.Disk.state c.args.disk.now) (g.D.Disk.state c.read_named.new.disk) c.in_ok-bytes.ensures.same
    c.args.name.now c.args.alphabet c.args.violate (g.D.Disk.state c.load_from.new.disk) c.load_from.result
    (c.load_from.ensures c.args.name.now
    (subst (AreOfFile (g.D.Disk.state c.read_named.new.disk) c.args.name.now) (sym c.as_slice.ensures.value)
    (still_there (g.D.Disk.state c.args.disk.now) (g.D.Disk.state c.read_named.new.disk) c.args.name.now
    c.in_ok-bytes.bytes.items c.in_ok-bytes.ensures.same c.in_ok-bytes.ensures.ok)))

use Rattle.helix_generate.proofs.Reading.{unloaded}
use Rattle.helix_generate.proofs.generating.generate.Goals as goal

pub returns-in-Err : goal.returns-in-Err
returns-in-Err g c =
    unloaded c.args.job.now (g.D.Disk.state c.args.disk.now) (g.D.Disk.state c.load.new.disk) c.in-Err.fault
    c.unloaded.result c.load.ensures.only_reads c.in-Err.ensures.end c.unloaded.ensures

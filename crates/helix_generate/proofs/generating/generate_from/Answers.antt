use Rattle.helix_generate.proofs.Reading.{lacks_start}
use Rattle.helix_generate.proofs.generating.generate_from.Goals as goal

pub returns-in-Err : goal.returns-in-Err
returns-in-Err g c =
    λ gives. lacks_start c.args.job.now (g.D.Disk.state c.args.disk.now) (g.D.Disk.state c.resumed.new.disk)
    c.args.loaded gives c.in-Err.ending c.in-Err.ensures

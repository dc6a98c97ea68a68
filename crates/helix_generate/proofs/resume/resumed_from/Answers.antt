use Rattle.std.proofs.Common.{◌∙◌, subst, sym}
use Rattle.helix_loading.specs.Files.{AreRead}
use Rattle.helix_generate.proofs.Resuming.{finds}
use Rattle.helix_generate.proofs.resume.resumed_from.Goals as goal

pub returns-in-Ok-read_file : goal.returns-in-Ok-read_file
returns-in-Ok-read_file g c =
    finds c.args.job.now c.args.loaded.now (g.D.Disk.state c.args.disk.now) (g.D.Disk.state c.read_file.new.disk) c.args.name.now c.as_slice.result.now c.as_str.result.now c.requires
    (record { only_reads = c.in-Ok-read_file.ensures.only_reads; read_faults = c.in-Ok-read_file.ensures.counts })
    (c.as_str.ensures.value ∙ c.in-Ok.ensures)
    (subst (AreRead (g.D.Disk.state c.args.disk.now) c.as_str.result.now) (sym c.as_slice.ensures.value) c.in-Ok-read_file.ensures.ok)
    c.start_of.result c.start_of.ensures

use Rattle.std.proofs.Common.{◌∙◌}
use Rattle.helix_loading.proofs.NamedFiles.{named_read}
use Rattle.helix_loading.proofs.set_files.read_named.Goals as goal

pub returns-in-Ok-clause-ok : goal.returns-in-Ok-clause-ok
returns-in-Ok-clause-ok g c =
    named_read (g.D.Disk.state c.args.disk.now) c.args.name.now c.as_str.result.now c.in-Ok.bytes.items c.in-Ok.ensures.ok
    (c.as_str.ensures.value ∙ c.in_ok-written.ensures)

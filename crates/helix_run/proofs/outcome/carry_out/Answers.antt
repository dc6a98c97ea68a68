use Rattle.std.proofs.Common.{subst}
use Rattle.helix_run.specs.Inner.Words.{names}
use Rattle.helix_run.specs.Inner.Outcome.{EndsProfile}
use Rattle.helix_run.proofs.Outcomes.{EndsOrder-read}
use Rattle.helix_run.proofs.outcome.carry_out.Goals as goal

pub returns-in-Ok : goal.returns-in-Ok
returns-in-Ok g c =
    EndsOrder-read (names c.args.order) (g.D.Disk.state c.args.disk.now) (g.D.Disk.state c.read_file.new.disk)
    (g.D.Disk.state c.write_profile.new.disk) c.in-Ok.bytes.items c.write_profile.result
    (record {
      only_reads = c.in-Ok.ensures.only_reads;
      read_faults = c.in-Ok.ensures.counts;
      are_read = c.in-Ok.ensures.ok;
    })
    (subst (λ bytes. EndsProfile (names c.args.order) bytes (g.D.Disk.state c.read_file.new.disk) c.write_profile.result
    (g.D.Disk.state c.write_profile.new.disk)) c.deref.ensures.value c.write_profile.ensures)

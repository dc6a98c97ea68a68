use Rattle.std.proofs.Common.{◌∙◌, subst}
use Rattle.std.specs.Prelude.{Err}
use Rattle.helix_writing.specs.Writing.{WritesRows}
use Rattle.helix_generate.proofs.ReadyEnds.{failed, last_fits, wanting, written_ends}
use Rattle.helix_generate.proofs.data.write_ready.Goals as goal

pub end_written-requires : goal.end_written-requires
end_written-requires g c =
    last_fits c.args.job.now c.requires.ready.0 c.requires.ready.1 c.args.ready.now c.requires.ready.2 _ _
    (record {
      name = c.as_str.result;
      replace = c.args.job.now.replace;
      format = c.args.job.now.format;
      limit = c.args.job.now.limit;
    }) c.in-Ok.written c.write_rows.new.last c.write_rows.new.rows
    c.in-Ok.ensures.profile c.requires.limit
    (c.in-Ok.ensures.writes c.requires.ready.1 c.requires.ready.2.first_is)

pub returns-in-Ok : goal.returns-in-Ok
returns-in-Ok g c =
    λ loaded start is gives starts. written_ends c.args.job.now loaded start c.args.ready.now is
    (g.D.Disk.state c.args.disk.now) (g.D.Disk.state c.write_rows.new.disk)
    (record {
      name = c.as_str.result;
      replace = c.args.job.now.replace;
      format = c.args.job.now.format;
      limit = c.args.job.now.limit;
    }) (c.as_str.ensures.value ∙ is.output_is) gives starts c.write_rows.new.last
    c.in-Ok.written (c.in-Ok.ensures.writes start is.first_is) c.write_rows.new.rows c.in-Ok.ensures.profile
    (g.D.Disk.state c.end_written.new.disk) c.end_written.result c.end_written.ensures

pub returns-in-Err-Failed : goal.returns-in-Err-Failed
returns-in-Err-Failed g c =
    λ loaded start is gives starts. failed c.args.job.now loaded start c.args.ready.now is
    (g.D.Disk.state c.args.disk.now) (g.D.Disk.state c.write_rows.new.disk)
    (record {
      name = c.as_str.result;
      replace = c.args.job.now.replace;
      format = c.args.job.now.format;
      limit = c.args.job.now.limit;
    }) (c.as_str.ensures.value ∙ is.output_is) gives starts c.write_rows.new.last
    (subst (λ f. WritesRows (record {
      name = c.as_str.result;
      replace = c.args.job.now.replace;
      format = c.args.job.now.format;
      limit = c.args.job.now.limit;
    }) c.args.ready.now.rows.profile start
    (g.D.Disk.state c.args.disk.now) (Err f) c.write_rows.new.last (g.D.Disk.state c.write_rows.new.disk))
    c.in-Err-Failed.field-0-is (c.in-Err-Failed.ensures.writes start is.first_is))

pub returns-in-Err-Memory : goal.returns-in-Err-Memory
returns-in-Err-Memory g c =
    λ loaded start is gives starts. wanting c.args.job.now loaded start c.args.ready.now is
    (g.D.Disk.state c.args.disk.now) (g.D.Disk.state c.write_rows.new.disk)
    (record {
      name = c.as_str.result;
      replace = c.args.job.now.replace;
      format = c.args.job.now.format;
      limit = c.args.job.now.limit;
    }) (c.as_str.ensures.value ∙ is.output_is) gives starts c.write_rows.new.last
    (subst (λ f. WritesRows (record {
      name = c.as_str.result;
      replace = c.args.job.now.replace;
      format = c.args.job.now.format;
      limit = c.args.job.now.limit;
    }) c.args.ready.now.rows.profile start
    (g.D.Disk.state c.args.disk.now) (Err f) c.write_rows.new.last (g.D.Disk.state c.write_rows.new.disk))
    c.in-Err-Memory.field-0-is (c.in-Err-Memory.ensures.writes start is.first_is))

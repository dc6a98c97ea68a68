use Rattle.std.proofs.Common.{[], true, sym, subst}
use Rattle.helix_output.specs.Fitting.{FitsFields}
use Rattle.helix_writing.specs.Inner.Putting.{PutsRest, StopsPutting}
use Rattle.helix_writing.specs.Inner.Sending.{HasSent}
use Rattle.helix_writing.specs.Inner.Texts.{line_for}
use Rattle.helix_writing.proofs.FirstRow.{rest_after, stops_after}
use Rattle.helix_writing.proofs.Handing.{err_gives, ok_gives}
use Rattle.helix_writing.proofs.MostRows.{cells_fit}
use Rattle.helix_writing.proofs.put.put_rows.Goals as goal

pub put_row-requires-clause-fits : goal.put_row-requires-clause-fits
put_row-requires-clause-fits g c =
    subst (λ f. FitsFields f c.args.last.now) (sym c.requires.fields)
    (cells_fit c.args.rows.now.profile.fields c.args.last.now c.requires.good.cells)

pub returns-clause-ok : goal.returns-clause-ok
returns-clause-ok g c =
    ok_gives
    (λ written. PutsRest c.args.format c.args.rows.now.profile c.args.last.now [] c.args.limit
    (g.D.Disk.state c.put_row.new.disk) c.put_row.new.block written c.put_rest.new.last c.put_rest.new.block
    (g.D.Disk.state c.put_rest.new.disk)) _ c.put_rest.result
    (λ written. rest_after c.args.format c.args.rows.now.profile c.args.last.now
    (line_for c.args.format true c.args.rows.now.profile.fields c.args.last.now) c.args.limit
    (g.D.Disk.state c.args.disk.now) c.args.block.now c.put_row.new.block (g.D.Disk.state c.put_row.new.disk)
    (subst (λ f. HasSent (g.D.Disk.state c.args.disk.now) c.args.block.now
    (line_for c.args.format true f c.args.last.now) c.put_row.new.block (g.D.Disk.state c.put_row.new.disk))
    c.requires.fields c.in_ok-put_row.ensures.ok)
    written c.put_rest.new.last c.put_rest.new.block (g.D.Disk.state c.put_rest.new.disk))
    c.put_rest.ensures.ok

pub returns-clause-err : goal.returns-clause-err
returns-clause-err g c =
    err_gives
    (λ stop. StopsPutting c.args.format c.args.rows.now.profile c.args.last.now [] c.args.limit
    (g.D.Disk.state c.put_row.new.disk) c.put_row.new.block stop (g.D.Disk.state c.put_rest.new.disk)) _
    c.put_rest.result
    (λ stop. stops_after c.args.format c.args.rows.now.profile c.args.last.now
    (line_for c.args.format true c.args.rows.now.profile.fields c.args.last.now) c.args.limit
    (g.D.Disk.state c.args.disk.now) c.args.block.now c.put_row.new.block (g.D.Disk.state c.put_row.new.disk)
    (subst (λ f. HasSent (g.D.Disk.state c.args.disk.now) c.args.block.now
    (line_for c.args.format true f c.args.last.now) c.put_row.new.block (g.D.Disk.state c.put_row.new.disk))
    c.requires.fields c.in_ok-put_row.ensures.ok)
    stop (g.D.Disk.state c.put_rest.new.disk))
    c.put_rest.ensures.err

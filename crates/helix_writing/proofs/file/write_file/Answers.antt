use Rattle.helix_writing.proofs.WholeFile.{put_failed, finished}
use Rattle.helix_writing.proofs.file.write_file.Goals as goal

pub returns-in_err-put_all : goal.returns-in_err-put_all
returns-in_err-put_all g c =
    put_failed _ _ c.args.name.now c.args.replace c.in_ok-begin_write.field-0 c.in_ok-begin_write.ensures
    c.args.text.now _ c.in_err-put_all.field-0.0 _ c.from_residual-in_err-put_all.ensures.0 c.in_err-put_all.ensures

pub returns : goal.returns
returns g c =
    finished _ _ c.args.name.now c.args.replace c.in_ok-begin_write.field-0 c.in_ok-begin_write.ensures
    c.args.text.now _ _ c.in_ok-put_all.field-0 _ c.in_ok-put_all.ensures c.finish.ensures

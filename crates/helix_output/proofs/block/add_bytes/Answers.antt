use Rattle.std.proofs.Common.{refl}
use Rattle.helix_output.proofs.Owing.{sent_owed, both_out, rest_failed}
use Rattle.helix_output.proofs.block.add_bytes.Goals as goal

pub returns-in_err-put_all-2 : goal.returns-in_err-put_all-2
returns-in_err-put_all-2 g c =
    rest_failed _ _ c.args.owed.now.items c.args.bytes.now c.in_ok-put_all.field-0 _
    (sent_owed _ _ _ _ _ c.as_slice.ensures.value c.in_ok-put_all.ensures)
    c.in_err-put_all-2.field-0.0 c.from_residual-in_err-put_all-2.result c.from_residual-in_err-put_all-2.ensures.0
    c.args.owed.now.items refl c.in_err-put_all-2.ensures

pub returns : goal.returns
returns g c =
    both_out _ _ c.args.owed.now.items c.args.bytes.now c.in_ok-put_all.field-0 _
    (sent_owed _ _ _ _ _ c.as_slice.ensures.value c.in_ok-put_all.ensures)
    tt c.in_ok-put_all-2.field-0 c.clear-2.new.self.items c.clear-2.ensures.items c.in_ok-put_all-2.ensures

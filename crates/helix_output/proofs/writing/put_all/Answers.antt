use Rattle.std.proofs.Common.{rules}
use Rattle.helix_output.proofs.Putting.{HasPut-step, PutsAll-failed, rest_of}
use Rattle.helix_output.proofs.writing.put_all.Goals as goal

pub returns-in_err-done : goal.returns-in_err-done
returns-in_err-done g c =
    PutsAll-failed _ _ c.args.bytes.now c.loop-done.done c.loop-done.invariant.0 _ _
    (rest_of c.args.bytes.now c.loop-done.done)
    c.in_err-done.field-0.0 c.from_residual.result c.from_residual.ensures.0 c.in_err-done.ensures

pub loop-done-preserved : goal.loop-done-preserved
loop-done-preserved g c = (
  HasPut-step _ _ c.args.bytes.now c.loop-done.done c.loop-done.invariant.0 _ _
      (rest_of c.args.bytes.now c.loop-done.done)
      c.in_ok-done.field-0 c.in_ok-done.ensures,
  search rules,
)

use Rattle.std.proofs.Common.{List, [], arith}
use Rattle.std.specs.Prelude.{refl}
use Rattle.helix_values.specs.declared.cell.Cell.{Cell}
use Rattle.helix_writing.specs.Inner.Putting.{StandsAt, StopsPutting}
use Rattle.helix_writing.proofs.Handing.{handed}
use Rattle.helix_writing.proofs.MostRows.{none_put, put_all, put_more, next_agrees, next_fits, next_within, stops_more}
use Rattle.helix_writing.proofs.put.put_most.Goals as goal

pub loop-count-init : goal.loop-count-init
loop-count-init g c =
    none_put c.args.format c.args.limit (g.D.Disk.state c.args.disk.now) c.args.block.now c.args.rows.now
    c.args.line.now c.requires.stands.0 c.requires.stands.1 c.requires.limit c.requires.open

pub returns-in_default-clause-ok : goal.returns-in_default-clause-ok
returns-in_default-clause-ok g c =
    λ row stands. put_all c.args.format c.args.limit _ _ _ _ _ _ _ _ c.loop-count.invariant row c.step.new.self
    stands.place_is c.in_default.ensures.end c.in_default.ensures.profile (λ fewer. c.in_default.ensures.none)

pub put_row-requires-clause-fits : goal.put_row-requires-clause-fits
put_row-requires-clause-fits g c =
    next_fits c.args.format c.args.limit _ _ _ _ _ _ _ _ c.loop-count.invariant c.in-Some.kept c.row.result.now
    c.step.new.self c.in-Some.ensures.next c.row.ensures

pub put_row-requires-clause-agrees : goal.put_row-requires-clause-agrees
put_row-requires-clause-agrees g c =
    next_agrees c.args.format c.args.limit _ _ _ _ _ _ _ _ c.loop-count.invariant c.in-Some.kept c.row.result.now
    c.step.new.self c.in-Some.ensures.next c.row.ensures

pub put_row-requires-clause-within : goal.put_row-requires-clause-within
put_row-requires-clause-within g c =
    next_within c.args.format c.args.limit _ _ _ _ _ _ _ _ c.loop-count.invariant c.in-Some.kept c.row.result.now
    c.step.new.self c.in-Some.ensures.next c.row.ensures

pub returns-in_err-put_row-clause-err : goal.returns-in_err-put_row-clause-err
returns-in_err-put_row-clause-err g c =
    handed (λ stop. (row : List Cell) → StandsAt c.args.format c.args.rows.now c.args.line.now row
    → StopsPutting c.args.format c.args.rows.now.profile row [] c.args.limit (g.D.Disk.state c.args.disk.now)
    c.args.block.now stop (g.D.Disk.state c.put_row.new.disk))
    c.from_residual.result c.in_err-put_row.field-0.0 c.from_residual.ensures.1
    (λ row stands. stops_more c.args.format c.args.limit _ _ _ _ _ _ _ _ c.loop-count.invariant c.in-Some.kept
    c.row.result.now c.step.new.self c.in-Some.ensures.next c.row.ensures row c.in_err-put_row.field-0.0 _
    stands.place_is (omega (arith, c.loop-count-test.true)) c.in_err-put_row.ensures.err
    c.in_err-put_row.ensures.memory)

pub loop-count-preserved : goal.loop-count-preserved
loop-count-preserved g c =
    put_more c.args.format c.args.limit _ _ _ _ _ _ _ _ c.loop-count.invariant c.in-Some.kept c.row.result.now
    c.step.new.self c.in-Some.ensures.next c.row.ensures _ _ _ (omega (arith, c.loop-count-test.true))
    c.in-Some.ensures.profile c.in_ok-put_row.ensures.ok c.in_ok-put_row.ensures.line

pub returns-clause-ok : goal.returns-clause-ok
returns-clause-ok g c =
    λ row stands. put_all c.args.format c.args.limit _ _ _ _ _ _ _ _ c.loop-count.invariant row c.loop-count.rows
    stands.place_is refl refl (λ fewer. absurd (omega (arith, fewer, c.loop-count-test.false)))

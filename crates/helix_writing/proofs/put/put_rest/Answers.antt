use Rattle.std.proofs.Common.{[], refl, ◌∙◌, arith}
use Rattle.helix_writing.specs.Inner.Putting.{StopsPutting}
use Rattle.helix_writing.proofs.Handing.{handed}
use Rattle.helix_writing.proofs.RestRows.{as_many, ends_at_last, last_fits, stops_at_last}
use Rattle.helix_writing.proofs.put.put_rest.Goals as goal

pub advance-requires : goal.advance-requires
advance-requires g c =
    as_many c.args.format c.args.rows.now.profile c.args.last.now c.args.limit c.in_ok-count.count _ _ _ _
    c.put_most.new.rows (c.in_ok-count.ensures.ok c.args.last.now c.requires.stands) c.requires.stands.good

pub put_row-requires-clause-fits : goal.put_row-requires-clause-fits
put_row-requires-clause-fits g c =
    last_fits c.args.format c.args.rows.now.profile c.args.last.now c.args.limit c.in_ok-count.count _ _ _ _
    c.put_most.new.rows (c.in_ok-count.ensures.ok c.args.last.now c.requires.stands) c.put_most.new.line.fields
    (c.in_ok-count.ensures.fields ∙ c.requires.stands.fields_are) c.advance.new.out (c.if-not-advance.ensures.next refl)

pub returns-in_err-put_row-clause-err : goal.returns-in_err-put_row-clause-err
returns-in_err-put_row-clause-err g c =
    handed (λ stop. StopsPutting c.args.format c.args.rows.now.profile c.args.last.now [] c.args.limit
    (g.D.Disk.state c.args.disk.now) c.args.block.now stop (g.D.Disk.state c.put_row.new.disk))
    c.from_residual-in_err-put_row.result c.in_err-put_row.field-0.0 c.from_residual-in_err-put_row.ensures.1
    (stops_at_last c.args.format c.args.rows.now.profile c.args.last.now c.args.limit c.in_ok-count.count _ _ _ _
    c.put_most.new.rows (c.in_ok-count.ensures.ok c.args.last.now c.requires.stands) c.put_most.new.line.fields
    (c.in_ok-count.ensures.fields ∙ c.requires.stands.fields_are) c.advance.new.out (c.if-not-advance.ensures.next refl)
    c.in_err-put_row.field-0.0 _
    (omega (arith, (c.in_ok-count.ensures.ok c.args.last.now c.requires.stands).few, c.if-count-limit.false))
    c.in_err-put_row.ensures.err c.in_err-put_row.ensures.memory)

pub returns-clause-ok : goal.returns-clause-ok
returns-clause-ok g c =
    ends_at_last c.args.format c.args.rows.now.profile c.args.last.now c.args.limit c.in_ok-count.count _ _ _ _
    c.put_most.new.rows (c.in_ok-count.ensures.ok c.args.last.now c.requires.stands) c.put_most.new.line.fields
    (c.in_ok-count.ensures.fields ∙ c.requires.stands.fields_are) c.advance.new.out (c.if-not-advance.ensures.next refl)
    _ _ c.advance.new.self _ c.step-2.result c.is_some-2.result c.is_some-2.ensures
    (omega (
      arith,
      (c.in_ok-count.ensures.ok c.args.last.now c.requires.stands).few,
      c.if-count-limit.false,
      c.if-limit-count-gt1.false,
    ))
    c.in_ok-put_row.ensures.ok (c.if-not-advance.ensures.place refl) c.if-not-advance.ensures.profile
    c.step-2.ensures.next c.step-2.ensures.none

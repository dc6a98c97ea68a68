use Rattle.std.proofs.Common.{◌≡◌, List, ℕ, [], Option, ◌∙◌, ap, subst}
use Rattle.helix_outside.specs.Disk.{DiskState}
use Rattle.helix_values.specs.declared.cell.Cell.{Cell}
use Rattle.helix_writing.specs.GoodRows.{IsFirstAbove}
use Rattle.helix_writing.specs.Inner.Sending.{HasSent}
use Rattle.helix_writing.specs.Inner.Sent.{StopsSentRows}
use Rattle.helix_writing.specs.Inner.Texts.{opening}
use Rattle.helix_writing.specs.declared.data_file.WriteFault.TheVariants as fault
use Rattle.helix_writing.proofs.Handing.{handed}
use Rattle.helix_writing.proofs.Sending.{added}
use Rattle.helix_writing.proofs.SentRows.{all_sent, stops_closing, stops_lines}
use Rattle.helix_writing.proofs.rows.send_rows.Goals as goal

-- what opens the text was sent, before which nothing was owed
begun : (old mid : DiskState) (owed bytes line text still : List ℕ) → owed ≡ [] → bytes ≡ line → line ≡ text
    → HasSent old owed bytes still mid → HasSent old [] text still mid
begun old mid owed bytes line text still none lent made sent =
    subst (λ o. HasSent old o text still mid) none (subst (λ b. HasSent old owed b still mid) (lent ∙ made) sent)

pub returns-in_err-written-clause-err : goal.returns-in_err-written-clause-err
returns-in_err-written-clause-err g c =
    handed (λ stop. (start : Option (List Cell)) → IsFirstAbove c.args.rows.now start c.args.last.now c.args.first
    → StopsSentRows c.args.file c.args.rows.now.profile start (g.D.Disk.state c.args.disk.now) stop
    (g.D.Disk.state c.put_some.new.disk))
    c.from_residual-in_err-written.result c.in_err-written.field-0.0 c.from_residual-in_err-written.ensures.1
    (λ start at. stops_lines c.args.file c.args.rows.now.profile start (g.D.Disk.state c.args.disk.now)
    c.add.new.self (g.D.Disk.state c.add.new.disk)
    (begun _ _ c.args.block.now c.bytes.result.now c.make_opening.new.line.bytes _ _ c.requires.none_owed c.bytes.ensures
    (c.make_opening.ensures.bytes ∙ ap (opening c.args.file.format) c.requires.fields)
    (added _ _ c.in_ok-add.field-0 _ _ _ c.in_ok-add.ensures))
    c.in_err-written.field-0.0 _ (c.in_err-written.ensures.err start at))

pub returns-in_err-put_closing-clause-err : goal.returns-in_err-put_closing-clause-err
returns-in_err-put_closing-clause-err g c =
    handed (λ stop. (start : Option (List Cell)) → IsFirstAbove c.args.rows.now start c.args.last.now c.args.first
    → StopsSentRows c.args.file c.args.rows.now.profile start (g.D.Disk.state c.args.disk.now) stop
    (g.D.Disk.state c.put_closing.new.disk))
    c.from_residual-in_err-put_closing.result fault.Failed c.from_residual-in_err-put_closing.ensures.1
    (λ start at. stops_closing c.args.file c.args.rows.now.profile start (g.D.Disk.state c.args.disk.now)
    c.add.new.self (g.D.Disk.state c.add.new.disk)
    (begun _ _ c.args.block.now c.bytes.result.now c.make_opening.new.line.bytes _ _ c.requires.none_owed c.bytes.ensures
    (c.make_opening.ensures.bytes ∙ ap (opening c.args.file.format) c.requires.fields)
    (added _ _ c.in_ok-add.field-0 _ _ _ c.in_ok-add.ensures))
    c.in_ok-written.written _ _ _ (c.in_ok-written.ensures.ok start at) fault.Failed _ c.in_err-put_closing.ensures.err
    (λ e. absurd (cc)))

pub returns-clause-ok : goal.returns-clause-ok
returns-clause-ok g c =
    λ start at. all_sent c.args.file c.args.rows.now.profile start (g.D.Disk.state c.args.disk.now)
    c.add.new.self (g.D.Disk.state c.add.new.disk)
    (begun _ _ c.args.block.now c.bytes.result.now c.make_opening.new.line.bytes _ _ c.requires.none_owed c.bytes.ensures
    (c.make_opening.ensures.bytes ∙ ap (opening c.args.file.format) c.requires.fields)
    (added _ _ c.in_ok-add.field-0 _ _ _ c.in_ok-add.ensures))
    c.in_ok-written.written _ _ _ (c.in_ok-written.ensures.ok start at) _ c.in_ok-put_closing.ensures.ok

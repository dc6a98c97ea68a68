use Rattle.std.proofs.Common.{◌≡◌, List, ℕ, ◌∙◌, ap, sym, subst}
use Rattle.helix_output.specs.JsonLines.{json_closing}
use Rattle.helix_output.specs.Line.{Line, line_of}
use Rattle.helix_output.specs.declared.format.Format.{Format}
use Rattle.helix_output.specs.declared.format.Format.TheVariants.{Json}
use Rattle.helix_profile.specs.declared.field.Field.{Field}
use Rattle.helix_writing.specs.Inner.Sending.{HasSent}
use Rattle.helix_writing.specs.Inner.Texts.{closing}
use Rattle.helix_writing.proofs.Sending.{added, sent_flushed, stop_flushed}
use Rattle.helix_writing.proofs.lines.put_closing.Goals as goal

closing_is : (format : Format) (bytes : List ℕ) (line : Line) (fields : List Field) → format ≡ Json
    → line ≡ line_of fields json_closing → bytes ≡ line.bytes → bytes ≡ closing format
closing_is format bytes line fields is made lent = lent ∙ ap (λ l. l.bytes) made ∙ sym (ap closing is)

pub returns-in_ok-add-in-Json-clause-ok : goal.returns-in_ok-add-in-Json-clause-ok
returns-in_ok-add-in-Json-clause-ok g c =
    sent_flushed (g.D.Disk.state c.args.disk.now) (g.D.Disk.state c.add.new.disk)
    (g.D.Disk.state c.flush-in-Json.new.disk) c.args.block.now (closing c.args.format) c.add.new.self
    (subst (λ b. HasSent (g.D.Disk.state c.args.disk.now) c.args.block.now b c.add.new.self
    (g.D.Disk.state c.add.new.disk))
    (closing_is c.args.format c.bytes.result.now c.json_close.new.line c.args.line.now.fields c.in-Json.is
    c.json_close.ensures c.bytes.ensures)
    (added _ _ c.in_ok-add-in-Json.field-0 _ _ _ c.in_ok-add-in-Json.ensures))
    c.flush-in-Json.result c.flush-in-Json.ensures.puts

pub returns-in_ok-add-in-Json-clause-err : goal.returns-in_ok-add-in-Json-clause-err
returns-in_ok-add-in-Json-clause-err g c =
    stop_flushed (g.D.Disk.state c.args.disk.now) (g.D.Disk.state c.add.new.disk)
    (g.D.Disk.state c.flush-in-Json.new.disk) c.args.block.now (closing c.args.format) c.add.new.self
    (subst (λ b. HasSent (g.D.Disk.state c.args.disk.now) c.args.block.now b c.add.new.self
    (g.D.Disk.state c.add.new.disk))
    (closing_is c.args.format c.bytes.result.now c.json_close.new.line c.args.line.now.fields c.in-Json.is
    c.json_close.ensures c.bytes.ensures)
    (added _ _ c.in_ok-add-in-Json.field-0 _ _ _ c.in_ok-add-in-Json.ensures))
    c.flush-in-Json.result c.flush-in-Json.ensures.puts

use Rattle.std.proofs.Common.{◌≡◌, Bool, true, List, subst}
use Rattle.std.specs.Prelude.{Option}
use Rattle.helix_profile.specs.Good.{IsGood}
use Rattle.helix_rows.specs.Parts.{IsNextRow}
use Rattle.helix_values.specs.declared.cell.Cell.{Cell}
use Rattle.helix_writing.specs.GoodRows.{IsFirstAbove, Place}
use Rattle.helix_writing.specs.Inner.Putting.{PutsRest, StopsPutting}
use Rattle.helix_writing.specs.Inner.Texts.{line_for}
use Rattle.helix_writing.proofs.AllRows.{puts_rows, stops_rows}
use Rattle.helix_writing.proofs.Handing.{err_gives, ok_gives}
use Rattle.helix_writing.proofs.rows.put_some.Goals as goal

first_is : (place : Place) (start : Option (List Cell)) (row : List Cell) (first : Bool) → first ≡ true
    → IsFirstAbove place start row first → IsNextRow (IsGood place.profile) start row
first_is place start row first is at = (subst (IsFirstAbove place start row) is at).1

pub returns-clause-ok : goal.returns-clause-ok
returns-clause-ok g c =
    ok_gives
    (λ written. PutsRest c.args.format c.args.rows.now.profile c.args.last.now
    (line_for c.args.format true c.args.rows.now.profile.fields c.args.last.now) c.args.limit
    (g.D.Disk.state c.args.disk.now) c.args.block.now written c.put_rows.new.last c.put_rows.new.block
    (g.D.Disk.state c.put_rows.new.disk)) _ c.put_rows.result
    (λ written puts start at. puts_rows c.args.format c.args.rows.now.profile c.args.last.now c.args.limit _ _ start
    (first_is c.args.rows.now start c.args.last.now c.args.first c.if-not-first.false at) written _ _ _ puts)
    c.put_rows.ensures.ok

pub returns-clause-err : goal.returns-clause-err
returns-clause-err g c =
    err_gives
    (λ stop. StopsPutting c.args.format c.args.rows.now.profile c.args.last.now
    (line_for c.args.format true c.args.rows.now.profile.fields c.args.last.now) c.args.limit
    (g.D.Disk.state c.args.disk.now) c.args.block.now stop (g.D.Disk.state c.put_rows.new.disk)) _ c.put_rows.result
    (λ stop stops start at. stops_rows c.args.format c.args.rows.now.profile c.args.last.now c.args.limit _ _ start
    (first_is c.args.rows.now start c.args.last.now c.args.first c.if-not-first.false at) stop _ stops)
    c.put_rows.ensures.err

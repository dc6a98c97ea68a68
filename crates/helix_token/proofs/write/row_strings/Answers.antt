use Rattle.std.proofs.Common.{◌∙◌, arith}
use Rattle.helix_values.specs.View.{cell_of}
use Rattle.helix_output.proofs.RowCells.{fits-at, length-fits}
use Rattle.helix_token.proofs.RowStrings.{strings_further, strings_whole}
use Rattle.helix_token.proofs.write.row_strings.Goals as goal

pub slot-requires : goal.slot-requires
slot-requires c =
    omega (arith, c.loop-i-test.true, length-fits c.args.fields.now c.args.row.now c.requires)

pub string_of-requires : goal.string_of-requires
string_of-requires c =
    fits-at c.args.fields.now c.args.row.now c.loop-i.i c.index-fields-i.result (cell_of c.view.result)
    c.loop-i-test.true c.requires c.index-fields-i.is (c.view.ensures ∙ c.slot.ensures)

pub loop-i-preserved : goal.loop-i-preserved
loop-i-preserved c =
    strings_further c.args.fields.now c.args.row.now c.loop-i.i c.index-fields-i.result (cell_of c.view.result)
    c.loop-i.strings c.push.new.self c.in_ok-string_of.field-0 c.loop-i-test.true c.requires c.index-fields-i.is
    (c.view.ensures ∙ c.slot.ensures) c.loop-i.invariant c.in_ok-string_of.ensures c.in_ok-push.ensures.ok

pub returns : goal.returns
returns c =
    strings_whole c.args.fields.now c.args.row.now c.loop-i.i c.loop-i.strings (omega (arith, c.loop-i-test.false))
    c.requires c.loop-i.invariant

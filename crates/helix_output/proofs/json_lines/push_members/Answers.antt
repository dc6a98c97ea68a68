use Rattle.std.proofs.Common.{ℕ, List, ◌++◌, ◌∙◌, ap, arith}
use Rattle.std.proofs.lemmas.List.{take_all}
use Rattle.helix_values.specs.View.{cell_of}
use Rattle.helix_output.specs.Csv.{joined}
use Rattle.helix_output.specs.JsonLines.{json_member, json_members}
use Rattle.helix_output.proofs.Members.{members_further}
use Rattle.helix_output.proofs.RowCells.{fits-at, length-fits, length-texts}
use Rattle.helix_output.proofs.json_lines.push_members.Goals as goal

pub slot-requires : goal.slot-requires
slot-requires c =
    omega (arith, c.loop-i-test.true, length-fits c.args.fields.now c.args.row.now c.requires.fits)

pub push_member-requires : goal.push_member-requires
push_member-requires c =
    fits-at c.args.fields.now c.args.row.now c.loop-i.i c.index-fields-i.result (cell_of c.view.result)
    c.loop-i-test.true c.requires.fits c.index-fields-i.is (c.view.ensures ∙ c.slot.ensures)

pub loop-i-preserved : goal.loop-i-preserved
loop-i-preserved c =
    members_further c.args.fields.now c.args.row.now c.args.names.now c.loop-i.i c.index-fields-i.result
    (cell_of c.view.result) c.as_slice.result.now c.index-names-i.result c.args.out.now.items c.loop-i.out.items
    c.push_member.new.out.items c.loop-i-test.true c.requires.fits c.requires.names c.index-fields-i.is
    (c.view.ensures ∙ c.slot.ensures) c.as_slice.ensures c.index-names-i.is c.loop-i.invariant
    c.in_ok-push_member.ensures

pub returns : goal.returns
returns c =
    c.loop-i.invariant
    ∙ ap (λ (p : List (List ℕ)). c.args.out.now.items ++ joined p)
    (take_all c.loop-i.i (json_members c.args.fields.now c.args.row.now)
    (omega (arith, c.loop-i-test.false, length-texts json_member c.args.fields.now c.args.row.now c.requires.fits)))

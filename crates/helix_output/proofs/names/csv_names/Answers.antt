use Rattle.std.proofs.Common.{◌++◌, ◌∙◌, ap}
use Rattle.helix_output.specs.Csv.{csv_string}
use Rattle.helix_output.specs.Inner.Cells.{comma_before}
use Rattle.helix_output.proofs.Members.{names_further}
use Rattle.helix_output.proofs.names.csv_names.Goals as goal

pub loop-i-preserved : goal.loop-i-preserved
loop-i-preserved c =
    names_further (λ field. csv_string field.name) c.args.fields.now c.loop-i.i c.index-fields-i.result
    c.loop-i.head.items c.push_csv_name.new.out.items c.loop-i-test.true c.index-fields-i.is c.loop-i.invariant
    (c.in_ok-push_csv_name.ensures
    ∙ ap (λ n. c.loop-i.head.items ++ (comma_before c.loop-i.i ++ csv_string n)) c.codes.ensures.value)

use Rattle.std.proofs.Common.{◌∙◌}
use Rattle.std.proofs.lemmas.List.Elements.{All-same}
use Rattle.helix_forest.specs.Closing.{HasEndsBelow}
use Rattle.helix_rules.specs.LineLaws.{lines_below}
use Rattle.helix_rules.specs.Lines.{lines_of, max_fields}
use Rattle.helix_rules.proofs.cycle.cycle_fault.Goals as goal

pub check_forest-requires : goal.check_forest-requires
check_forest-requires c = record {
  ends = All-same (HasEndsBelow max_fields) c.as_slice.result.now (lines_of c.args.fields.now c.args.v.now)
      (c.as_slice.ensures.value ∙ c.in_ok-lines.ensures) (lines_below c.args.fields.now c.args.v.now);
}

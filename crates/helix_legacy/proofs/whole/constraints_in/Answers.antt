use Rattle.std.proofs.Common.{◌∙◌, codes}
use Rattle.helix_places.specs.ViewLaws.{value_in}
use Rattle.helix_legacy.proofs.whole.constraints_in.Goals as goal

pub returns-in-Some : goal.returns-in-Some
returns-in-Some c = c.value_of.ensures
    ∙ value_in c.args.rule.now c.in-Some.members.now (codes "constraints") c.in-Some.ensures.some

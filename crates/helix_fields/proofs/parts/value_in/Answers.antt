use Rattle.std.proofs.Common.{◌∙◌}
use Rattle.helix_places.specs.ViewLaws.{value_in}
use Rattle.helix_fields.proofs.parts.value_in.Goals as goal

pub returns-in-Some : goal.returns-in-Some
returns-in-Some c = c.value_of.ensures
    ∙ value_in c.args.v.now c.in-Some.members.now c.args.key.now c.in-Some.ensures.some

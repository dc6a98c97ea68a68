use Rattle.helix_places.specs.ViewLaws.{items_in}
use Rattle.helix_fields.proofs.parts.items_in.Goals as goal

pub returns-in-Some : goal.returns-in-Some
returns-in-Some c = items_in c.args.v.now c.in-Some.items.now c.in-Some.ensures.some

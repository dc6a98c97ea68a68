use Rattle.helix_json.specs.declared.value.Json.TheViews as view
use Rattle.helix_places.specs.Places.{InItem}
use Rattle.helix_fields.specs.Inner.Objects.{BreaksInField}
use Rattle.helix_fields.specs.SearchLaws.{no_items, same_says}
use Rattle.helix_fields.proofs.field.in_fields.Goals as goal

pub returns-in-Some : goal.returns-in-Some
returns-in-Some c = same_says c.args.fields.now (view.List c.in-Some.items.now) (InItem (BreaksInField c.args.rule))
    c.in_items.result c.in-Some.ensures.some c.in_items.ensures

pub returns-in-None : goal.returns-in-None
returns-in-None c = no_items c.args.fields.now (BreaksInField c.args.rule) c.in-None.ensures.empty

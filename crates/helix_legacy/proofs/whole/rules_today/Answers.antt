use Rattle.std.proofs.Common.{◌∙◌, ap, map}
use Rattle.helix_json.specs.declared.value.Json.TheViews as view
use Rattle.helix_legacy.specs.Today.{rule_today}
use Rattle.helix_places.specs.ViewLaws.{items_in}
use Rattle.helix_legacy.proofs.Visiting.{if_ok}
use Rattle.helix_legacy.proofs.whole.rules_today.Goals as goal

pub returns-in-Some : goal.returns-in-Some
returns-in-Some c = if_ok c.each_today.result _ _
    (λ today is. is ∙ ap (λ l. view.List (map rule_today l))
    (items_in c.args.rules.now c.in-Some.items.now c.in-Some.ensures.some)) c.each_today.ensures

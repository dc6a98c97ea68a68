use Rattle.std.proofs.Common.{◌∙◌, ap, is_some, codes}
use Rattle.helix_places.specs.ViewLaws.{value_in}
use Rattle.helix_legacy.proofs.older.is_older.Goals as goal

pub returns-in-Some : goal.returns-in-Some
returns-in-Some c = c.has_key.ensures
    ∙ ap (λ o. is_some o) (value_in c.args.json.now c.in-Some.members.now (codes "rules") c.in-Some.ensures.some)

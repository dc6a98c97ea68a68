use Rattle.std.proofs.Common.{[], ◌∷◌, sym, subst}
use Rattle.helix_rows.proofs.Four.{parts_four, regions_four, parts_are}
use Rattle.helix_rows.specs.Inner.Listing.{IsListed}
use Rattle.helix_rows.specs.Parts.{ArePartsOf, AreRegionsOf}
use Rattle.helix_rows.proofs.tests.walk.Goals as goal

pub open-requires-clause-parts : goal.open-requires-clause-parts
open-requires-clause-parts c =
    subst (ArePartsOf 4) (sym (parts_are c.new-parts.result c.push.new.self c.push-2.new.self c.in_ok-part.field-0
    c.in_ok-part-2.field-0 (0 ∷ 1 ∷ []) c.args.second.now c.new-parts.ensures c.in_ok-push.ensures.ok
    c.in_ok-push-2.ensures.ok c.in_ok-part.ensures c.in_ok-part-2.ensures)) (parts_four (0 ∷ 1 ∷ []) c.args.second.now)

pub open-requires-clause-regions : goal.open-requires-clause-regions
open-requires-clause-regions c =
    subst (AreRegionsOf _ _ _ c.in_ok-regions.regions.items) (sym (parts_are c.new-parts.result c.push.new.self
    c.push-2.new.self c.in_ok-part.field-0 c.in_ok-part-2.field-0 (0 ∷ 1 ∷ []) c.args.second.now c.new-parts.ensures
    c.in_ok-push.ensures.ok c.in_ok-push-2.ensures.ok c.in_ok-part.ensures c.in_ok-part-2.ensures))
    (regions_four (λ r. r.fields.0 ∷ r.fields.1 ∷ []) (λ r. IsListed r.rows.items) c.in_ok-regions.regions.items
    c.in_ok-regions.ensures c.args.second.now c.requires)

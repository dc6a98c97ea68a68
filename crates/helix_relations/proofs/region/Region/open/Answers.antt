use Rattle.helix_relations.specs.Inner.OpeningLaws.{opened_kept}
use Rattle.helix_relations.proofs.region.Region.open.Goals as goal

pub invariant_of-result : goal.invariant_of-result
invariant_of-result c = opened_kept c.fields.result.now c.args.profile.now.fields c.args.fields.now
    c.in_ok-open_parts.field-0.items c.new.result _ c.fields.ensures.value c.requires.fields c.requires.ascending
    c.in_ok-open_parts.ensures.fields c.in_ok-open_parts.ensures.alone c.new.ensures

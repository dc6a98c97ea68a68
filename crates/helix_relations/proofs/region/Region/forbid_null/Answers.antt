use Rattle.std.proofs.Common.{refl}
use Rattle.helix_relations.specs.Change.{without_null}
use Rattle.helix_relations.specs.Inner.SettingLaws.{put_kept}
use Rattle.helix_relations.specs.Inner.PutLaws.{keeps_without_null, put_content}
use Rattle.helix_relations.proofs.region.Region.forbid_null.Goals as goal

pub invariant_of-self : goal.invariant_of-self
invariant_of-self c = put_kept c.self.inside.nodes.items c.as_slice.result.now c.self.inside.relations
    c.self.inside.levels.items c.self.inside.asked c.args.number c.index_of-index.result _ c.index_mut.result.now c.self.invariant
    c.as_slice.ensures.value c.index_of-index.ensures c.index_mut.ensures.value without_null keeps_without_null refl refl
    (λ is. record { kind = is.kind; nullable = is.nullable; linked = is.linked })

pub returns : goal.returns
returns c = put_content c.self.inside.nodes.items c.as_slice.result.now c.self.inside.relations c.self.inside.asked
    c.args.number c.index_of-index.result _ c.index_mut.result.now c.self.invariant.region c.as_slice.ensures.value
    c.index_of-index.ensures c.index_mut.ensures.value without_null refl c.args.self.now c.self.view_is

use Rattle.std.proofs.Common.{refl, sym, ap, ◌∙◌}
use Rattle.helix_relations.specs.Change.{with_domain, IsNarrower}
use Rattle.helix_relations.specs.Inner.SettingLaws.{put_kept}
use Rattle.helix_relations.specs.Inner.PutLaws.{keeps_domain, put_content, known_at, is_there, domain_put}
use Rattle.helix_relations.proofs.region.Region.narrow.Goals as goal

pub index_of-index-requires : goal.index_of-index-requires
index_of-index-requires c = is_there c.self.inside.nodes.items c.as_slice.result.now c.self.inside.relations
    c.self.inside.asked c.args.number c.args.self.now c.self.view_is c.as_slice.ensures.value
    (IsNarrower c.args.domain) c.requires

pub invariant_of-self : goal.invariant_of-self
invariant_of-self c =
    let known : IsNarrower c.args.domain _ = known_at c.self.inside.nodes.items c.as_slice.result.now
    c.self.inside.relations c.self.inside.asked c.args.number c.index_of-index.result c.index_mut.result.now
    c.index_mut.result.now c.self.invariant.region c.as_slice.ensures.value c.index_of-index.ensures
    c.index_mut.ensures.value (IsNarrower c.args.domain) c.args.self.now c.self.view_is c.requires in
    put_kept c.self.inside.nodes.items c.as_slice.result.now c.self.inside.relations c.self.inside.levels.items c.self.inside.asked
    c.args.number c.index_of-index.result (record c.index_mut.result.now { values = record c.index_mut.result.now.values { domain = c.args.domain } })
    c.index_mut.result.now c.self.invariant c.as_slice.ensures.value c.index_of-index.ensures
    c.index_mut.ensures.value (with_domain c.args.domain) (keeps_domain c.args.domain)
    (domain_put c.index_mut.result.now c.args.domain known.same_field) refl
    (λ is. record {
      kind = is.kind ∙ ap (λ field. field.kind) (sym (known.same_field));
      nullable = is.nullable ∙ ap (λ field. field.nullable) (sym (known.same_field));
      linked = is.linked;
    })

pub returns : goal.returns
returns c =
    let known : IsNarrower c.args.domain _ = known_at c.self.inside.nodes.items c.as_slice.result.now
    c.self.inside.relations c.self.inside.asked c.args.number c.index_of-index.result c.index_mut.result.now
    c.index_mut.result.now c.self.invariant.region c.as_slice.ensures.value c.index_of-index.ensures
    c.index_mut.ensures.value (IsNarrower c.args.domain) c.args.self.now c.self.view_is c.requires in
    put_content c.self.inside.nodes.items c.as_slice.result.now c.self.inside.relations c.self.inside.asked
    c.args.number c.index_of-index.result (record c.index_mut.result.now { values = record c.index_mut.result.now.values { domain = c.args.domain } })
    c.index_mut.result.now c.self.invariant.region c.as_slice.ensures.value c.index_of-index.ensures
    c.index_mut.ensures.value (with_domain c.args.domain)
    (domain_put c.index_mut.result.now c.args.domain known.same_field) c.args.self.now c.self.view_is

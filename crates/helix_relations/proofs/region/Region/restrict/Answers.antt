use Rattle.std.proofs.Common.{refl, sym, ap, ◌∙◌}
use Rattle.std.proofs.lemmas.Result.{on_ok_weaker}
use Rattle.helix_domains.specs.Domain.{IsAtomFor}
use Rattle.helix_relations.specs.Change.{with_atom, with_domain}
use Rattle.helix_relations.specs.Inner.SettingLaws.{put_kept}
use Rattle.helix_relations.specs.Inner.PutLaws.{keeps_domain, put_content, known_at, is_there, domain_put, atom_put}
use Rattle.helix_relations.proofs.region.Region.restrict.Goals as goal

pub index_of-index-requires : goal.index_of-index-requires
index_of-index-requires c = is_there c.self.inside.nodes.items c.as_slice.result.now c.self.inside.relations
    c.self.inside.asked c.args.atom.now.field c.args.self.now c.self.view_is c.as_slice.ensures.value
    (λ field. IsAtomFor field.field.kind (record { atom = c.args.atom.now; sign = c.args.sign })) c.requires

pub add-requires : goal.add-requires
add-requires c = known_at c.self.inside.nodes.items c.as_slice.result.now c.self.inside.relations c.self.inside.asked
    c.args.atom.now.field c.index_of-index.result c.index_mut.result.now c.index_mut.result.now c.self.invariant.region
    c.as_slice.ensures.value c.index_of-index.ensures c.index_mut.ensures.value
    (λ field. IsAtomFor field.field.kind (record { atom = c.args.atom.now; sign = c.args.sign })) c.args.self.now
    c.self.view_is c.requires

pub invariant_of-self : goal.invariant_of-self
invariant_of-self c = put_kept c.self.inside.nodes.items c.as_slice.result.now c.self.inside.relations
    c.self.inside.levels.items c.self.inside.asked c.args.atom.now.field c.index_of-index.result
    (record c.index_mut.result.now { values = record c.index_mut.result.now.values { domain = c.add.new.self } }) c.index_mut.result.now c.self.invariant
    c.as_slice.ensures.value c.index_of-index.ensures c.index_mut.ensures.value (with_domain c.add.new.self)
    (keeps_domain c.add.new.self) (domain_put c.index_mut.result.now c.add.new.self c.add.ensures.field) refl
    (λ is. record {
      kind = is.kind ∙ ap (λ field. field.kind) (sym (c.add.ensures.field));
      nullable = is.nullable ∙ ap (λ field. field.nullable) (sym (c.add.ensures.field));
      linked = is.linked;
    })

pub returns-clause-ok : goal.returns-clause-ok
returns-clause-ok c = on_ok_weaker c.add.result (λ more. put_content c.self.inside.nodes.items c.as_slice.result.now
    c.self.inside.relations c.self.inside.asked c.args.atom.now.field c.index_of-index.result
    (record c.index_mut.result.now { values = record c.index_mut.result.now.values { domain = c.add.new.self } }) c.index_mut.result.now c.self.invariant.region
    c.as_slice.ensures.value c.index_of-index.ensures c.index_mut.ensures.value
    (with_atom (record { atom = c.args.atom.now; sign = c.args.sign }))
    (atom_put c.index_mut.result.now c.add.new.self (record { atom = c.args.atom.now; sign = c.args.sign })
    c.add.ensures.field more)
    c.args.self.now c.self.view_is) c.add.ensures.atoms

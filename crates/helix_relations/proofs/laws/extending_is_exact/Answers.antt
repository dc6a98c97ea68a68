use Rattle.helix_relations.specs.ExtendingLaws.{extending_is_exact}
use Rattle.helix_relations.proofs.laws.extending_is_exact.Goals as goal

pub returns : goal.returns
returns g c = λ nodes relations count is fixed row good has_fixed depth enough.
    extending_is_exact (g.G.HasGraph.graph nodes) relations count is depth enough fixed row good has_fixed

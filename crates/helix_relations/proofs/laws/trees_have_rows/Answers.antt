use Rattle.helix_relations.specs.ExtendingLaws.{trees_have_rows}
use Rattle.helix_relations.proofs.laws.trees_have_rows.Goals as goal

pub returns : goal.returns
returns g c = λ nodes relations count is depth enough.
    trees_have_rows (g.G.HasGraph.graph nodes) relations count is depth enough

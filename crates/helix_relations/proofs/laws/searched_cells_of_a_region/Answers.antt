use Rattle.helix_relations.specs.SearchLaws.{search_is_exact}
use Rattle.helix_relations.proofs.laws.searched_cells_of_a_region.Goals as goal

pub returns : goal.returns
returns g c = λ search region is like. search_is_exact region is (g.G.HasGraph.graph search) like

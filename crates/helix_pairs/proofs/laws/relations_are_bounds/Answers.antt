use Rattle.helix_pairs.specs.BoundLaws.{related_by_bounds}
use Rattle.helix_pairs.proofs.laws.relations_are_bounds.Goals as goal

pub returns : goal.returns
returns c = related_by_bounds

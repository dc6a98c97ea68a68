use Rattle.helix_validity.proofs.Forests.{relations_are_a_forest}
use Rattle.helix_validity.proofs.laws.relations_are_a_forest.Goals as goal

pub returns : goal.returns
returns c = λ fields sets v cs few keys unbroken filled given.
    relations_are_a_forest fields sets v cs few keys unbroken filled given

use Rattle.helix_references.specs.ValidityLaws.{relation_for}
use Rattle.helix_references.proofs.laws.relations_are_valid.Goals as goal

pub returns : goal.returns
returns c = λ fields members keyword relation has unbroken gives.
    relation_for fields members keyword relation has unbroken gives

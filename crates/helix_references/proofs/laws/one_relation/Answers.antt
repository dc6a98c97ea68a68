use Rattle.helix_references.specs.UniqueLaws.{one_relation}
use Rattle.helix_references.proofs.laws.one_relation.Goals as goal

pub returns : goal.returns
returns c = λ fields members keyword relation other first second.
    one_relation fields members keyword relation other first second

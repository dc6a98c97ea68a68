use Rattle.helix_references.specs.AtomLaws.{atom_for}
use Rattle.helix_references.proofs.laws.keywords_are_for_their_fields.Goals as goal

pub returns : goal.returns
returns c = λ fields members keyword index has unbroken is. atom_for fields members keyword has unbroken index is

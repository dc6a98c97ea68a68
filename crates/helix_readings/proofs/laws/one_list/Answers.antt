use Rattle.std.proofs.Common.{◌∷◌, [], codes}
use Rattle.helix_fields.specs.Fields.{constraints_of}
use Rattle.helix_places.specs.declared.place.Step.TheVariants as step
use Rattle.helix_readings.specs.UniqueLaws.{one_given}
use Rattle.helix_readings.proofs.laws.one_list.Goals as goal

pub returns : goal.returns
returns c = λ fields sets v cs ds first second.
    one_given fields sets (step.Member (codes "constraints") ∷ []) 0 (constraints_of v) cs ds first second

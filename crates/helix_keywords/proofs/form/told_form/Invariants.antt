use Rattle.helix_places.specs.KeyLaws.{NoneBefore}
use Rattle.helix_keywords.proofs.Telling.{Tells}
use Rattle.helix_keywords.proofs.form.told_form.Given as goal

abbrev pub invariant-loop-member : goal.invariant-loop-member
invariant-loop-member l = NoneBefore Tells l.members l.member-index

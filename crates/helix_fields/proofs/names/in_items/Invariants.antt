use Rattle.helix_fields.proofs.FieldNames.{NoneFaulty}
use Rattle.helix_fields.proofs.names.in_items.Given as goal

abbrev pub invariant-loop-i : goal.invariant-loop-i
invariant-loop-i l = NoneFaulty l.fields l.i

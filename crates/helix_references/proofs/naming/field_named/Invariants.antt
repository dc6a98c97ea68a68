use Rattle.helix_references.proofs.FieldNames.{NoneNamed}
use Rattle.helix_references.proofs.naming.field_named.Given as goal

abbrev pub invariant-loop-i : goal.invariant-loop-i
invariant-loop-i l = NoneNamed l.fields l.name l.i

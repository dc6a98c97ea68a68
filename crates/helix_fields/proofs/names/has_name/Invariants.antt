use Rattle.std.proofs.Common.{◌≡◌, Some}
use Rattle.helix_places.specs.KeyLaws.{NoneBefore}
use Rattle.helix_fields.specs.FieldRules.{name_of}
use Rattle.helix_fields.proofs.names.has_name.Given as goal

abbrev pub invariant-loop-field : goal.invariant-loop-field
invariant-loop-field l = NoneBefore (λ field. name_of field ≡ Some l.name) l.fields l.field-index

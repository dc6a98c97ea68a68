use Rattle.std.proofs.Common.{◌≡◌, map, take}
use Rattle.helix_options.proofs.open.nullable_fields.Given as goal

abbrev pub invariant-loop-field : goal.invariant-loop-field
invariant-loop-field l = l.nullable ≡ map (λ field. field.nullable) (take l.field-index l.fields)

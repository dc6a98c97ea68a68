use Rattle.std.proofs.Common.{◌≡◌, map, take}
use Rattle.helix_fields.specs.Fields.{field_of}
use Rattle.helix_fields.proofs.fields.each_field.Given as goal

abbrev pub invariant-loop-item : goal.invariant-loop-item
invariant-loop-item l = l.all ≡ map (field_of l.alphabet) (take l.item-index l.items)

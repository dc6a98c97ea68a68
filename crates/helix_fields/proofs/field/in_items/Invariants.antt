use Rattle.helix_places.specs.PartLaws.{NoneInItems}
use Rattle.helix_fields.specs.Inner.Objects.{BreaksInField}
use Rattle.helix_fields.proofs.field.in_items.Given as goal

abbrev pub invariant-loop-i : goal.invariant-loop-i
invariant-loop-i l = NoneInItems (BreaksInField l.rule) l.items l.i

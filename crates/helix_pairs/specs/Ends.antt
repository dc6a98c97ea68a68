-- What a relation of a profile says of two fields, of which one is the parent and the other the child.
use Rattle.std.specs.Prelude.{ℤ}
use Rattle.helix_values.specs.declared.cell.Cell.{Cell}
use Rattle.helix_profile.specs.Holds.{Related}
use Rattle.helix_profile.specs.declared.relation.Relation.{Relation}
use Rattle.helix_ladders.specs.declared.offset.Offset.{Offset}
use Rattle.helix_ladders.specs.declared.offset.Offset.TheVariants.{Plain}
use Rattle.helix_pairs.specs.declared.comparison.End.{End}
use Rattle.helix_pairs.specs.declared.comparison.End.TheVariants.{Left, Right}

-- the relation holds of the cells of a parent's and a child's value
abbrev pub EndsRelated : Relation → End → (ℤ → Cell) → ℤ → ℤ → Type 0
EndsRelated relation Left cell parent child = Related relation (cell child) (cell parent)
EndsRelated relation Right cell parent child = Related relation (cell parent) (cell child)

-- an offset by units, the only one of a number
abbrev pub IsByUnits : Offset → Type 0
IsByUnits (Plain units) = Unit {0}
IsByUnits other = ⊥

-- The bound of a relation of numbers says what the relation says of their cells.
use Rattle.std.proofs.Common.{◌≡◌, ◌↔◌, ℤ, Bool, sym, subst}
use Rattle.helix_ladders.specs.Shift.{shifted}
use Rattle.helix_ladders.specs.declared.offset.Offset.{Offset}
use Rattle.helix_ladders.specs.declared.offset.Offset.TheVariants.{Plain, Months, Years, WorkingDays}
use Rattle.helix_values.specs.declared.cell.Cell.TheVariants.{Number}
use Rattle.helix_profile.specs.Holds.{Compares, NumbersRelated}
use Rattle.helix_profile.specs.Satisfaction.{Signed}
use Rattle.helix_profile.specs.declared.relation.Compare.{Compare}
use Rattle.helix_profile.specs.declared.relation.Relation.{Relation}
use Rattle.helix_pairs.specs.Related.{Relates, AreRelated}
use Rattle.helix_pairs.specs.Ends.{EndsRelated, IsByUnits}
use Rattle.helix_pairs.specs.declared.comparison.Comparison.{Comparison}
use Rattle.helix_pairs.specs.declared.comparison.End.{End}
use Rattle.helix_pairs.specs.declared.comparison.End.TheVariants.{Left, Right}

module _ (relation : Relation) (sign : Bool) (comparison : Comparison) (applied : ℤ → ℤ)
    (compares : (x y : ℤ) → Relates comparison x y ↔ Signed sign (Compares relation.compare x y))
    (shifts : (v : ℤ) → applied v ≡ shifted relation.offset v) where
  with_shifted : (x y : ℤ) → Relates comparison x (applied y)
      ↔ Signed sign (Compares relation.compare x (shifted relation.offset y))
  with_shifted x y =
      subst (λ z. Relates comparison x z ↔ Signed sign (Compares relation.compare x (shifted relation.offset y)))
      (sym (shifts y)) (compares x (shifted relation.offset y))

  by_units : (offset : Offset) (how : Compare) (x y : ℤ) → IsByUnits offset
      → Signed sign (Compares how x (shifted offset y)) ↔ Signed sign (NumbersRelated how offset x y)
  by_units (Plain units) how x y is = (λ holds. holds, λ holds. holds)
  by_units (Months count) how x y is = absurd is
  by_units (Years count) how x y is = absurd is
  by_units (WorkingDays count) how x y is = absurd is

  numbers_compared : (x y : ℤ) → IsByUnits relation.offset → Relates comparison x (applied y)
      ↔ Signed sign (NumbersRelated relation.compare relation.offset x y)
  numbers_compared x y is =
      let same = by_units relation.offset relation.compare x y is in (
        λ holds. same.0 ((with_shifted x y).0 holds),
        λ holds. (with_shifted x y).1 (same.1 holds),
      )

  pub numbers_related : (side : End) (parent child : ℤ) → IsByUnits relation.offset
      → AreRelated comparison side applied parent child ↔ Signed sign (EndsRelated relation side Number parent child)
  numbers_related Left parent child is = numbers_compared child parent is
  numbers_related Right parent child is = numbers_compared parent child is

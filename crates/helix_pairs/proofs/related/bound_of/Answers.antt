use Rattle.std.proofs.Common.{◌≡◌, ◌↔◌, ℤ, sym, subst}
use Rattle.helix_ladders.specs.Shift.{shifted}
use Rattle.helix_values.specs.declared.cell.Cell.TheVariants.{Number}
use Rattle.helix_profile.specs.Holds.{Compares}
use Rattle.helix_profile.specs.Satisfaction.{Signed}
use Rattle.helix_pairs.specs.Related.{Relates, AreRelated}
use Rattle.helix_pairs.specs.Ends.{EndsRelated}
use Rattle.helix_pairs.specs.OffsetShift.{applied_by}
use Rattle.helix_pairs.proofs.RelatedNumbers.{numbers_related}
use Rattle.helix_pairs.proofs.related.bound_of.Goals as goal

pub returns-clause-numbers : goal.returns-clause-numbers
returns-clause-numbers c =
    λ by_units p v.
    let compares = subst (λ comparison. (x y : ℤ) → Relates comparison x y
    ↔ Signed c.args.sign (Compares c.args.relation.now.compare x y)) (sym c.new.ensures.comparison)
    c.signed.ensures in
    let shifts = subst (λ shift. (w : ℤ) → applied_by shift w ≡ shifted c.args.relation.now.offset w)
    (sym c.new.ensures.shift) c.of-shift.ensures.applied in
    subst (λ side. AreRelated c.new.result.comparison side (applied_by c.new.result.shift) p v
    ↔ Signed c.args.sign (EndsRelated c.args.relation.now c.args.child Number p v)) (sym c.new.ensures.child)
    (numbers_related c.args.relation.now c.args.sign c.new.result.comparison (applied_by c.new.result.shift)
    compares shifts c.args.child p v by_units)

use Rattle.std.proofs.Common.{◌≡◌, ℤ, ◌<◌, length, true, false, Some, None, IsTrue, FitsSigned, to_z, of_z, sym, subst, refl, arith}
use Rattle.std.proofs.lemmas.Int.{ints, to_z-of_z}
use Rattle.std.specs.Int.{w128}
use Rattle.std.specs.List.{All}
use Rattle.helix_pairs.specs.Bounds.{IsExcluded, AreThoseFrom}
use Rattle.helix_pairs.proofs.PairBounds.{excluded_by_none_more, excluded_before, excluded_rest}
use Rattle.helix_pairs.proofs.pair.excludes.Goals as goal

pub loop-bound-preserved : goal.loop-bound-preserved
loop-bound-preserved g c =
    let is : c.excludes.result ≡ false = cc in
    excluded_by_none_more
    (λ b. IsExcluded b.comparison b.child (g.S.Shift.applied b.shift) (to_z w128 (of_z w128 c.args.parent))
    (to_z w128 (of_z w128 c.args.child)))
    c.args.bounds.now c.loop-bound.bound-index c.bound-item.result c.excludes.result (omega arith) c.bound-item.is
    c.excludes.ensures is c.loop-bound.invariant

pub past-requires-clause-parent_to_high : goal.past-requires-clause-parent_to_high
past-requires-clause-parent_to_high g c =
    let within : c.loop-bound.bound-index < length c.args.bounds.now = omega arith in
    let own = subst (λ b. (g.S.Shift.low b.shift ≡ c.args.range.low) × (g.S.Shift.high b.shift ≡ c.args.range.high))
    (sym c.bound-item.is) (c.requires.range c.loop-bound.bound-index c.bound-item.result within) in
    omega (arith, ints, own.1, c.requires.parent_to_high)

pub past-requires-clause-child_from_low : goal.past-requires-clause-child_from_low
past-requires-clause-child_from_low g c =
    let within : c.loop-bound.bound-index < length c.args.bounds.now = omega arith in
    let own = subst (λ b. (g.S.Shift.low b.shift ≡ c.args.range.low) × (g.S.Shift.high b.shift ≡ c.args.range.high))
    (sym c.bound-item.is) (c.requires.range c.loop-bound.bound-index c.bound-item.result within) in
    omega (arith, ints, own.0, c.requires.child_from_low)

pub returns-in-Some : goal.returns-in-Some
returns-in-Some g c =
    let within : c.loop-bound.bound-index < length c.args.bounds.now = omega arith in
    let own = subst (λ b. (g.S.Shift.low b.shift ≡ c.args.range.low) × (g.S.Shift.high b.shift ≡ c.args.range.high))
    (sym c.bound-item.is) (c.requires.range c.loop-bound.bound-index c.bound-item.result within) in
    let parent_fits : FitsSigned w128 c.args.parent = c.ranges.parent in
    let child_fits : FitsSigned w128 c.args.child = c.ranges.child in
    let decides = simp to_z-of_z at c.excludes.ensures in
    let is : c.excludes.result ≡ true = cc in
    let those = subst (λ (parent : ℤ). AreThoseFrom (to_z w128 (of_z w128 c.args.child))
    (g.S.Shift.high c.bound-item.result.shift)
    (λ v. ¬ IsExcluded c.bound-item.result.comparison c.bound-item.result.child
    (g.S.Shift.applied c.bound-item.result.shift) parent v) (Some c.in-Some.next))
    (to_z-of_z w128 c.args.parent c.ranges.parent) c.in-Some.ensures in
    excluded_before (λ b v. IsExcluded b.comparison b.child (g.S.Shift.applied b.shift) c.args.parent v)
    c.args.bounds.now c.args.range.high c.args.child c.loop-bound.bound-index c.bound-item.result _ _ c.in-Some.next _
    within c.bound-item.is (to_z-of_z w128 c.args.child c.ranges.child) (omega (arith, ints)) c.requires.child_to_high
    own.1 (decides.0 (subst IsTrue (sym is) refl)) those

pub returns-in-None : goal.returns-in-None
returns-in-None g c =
    let within : c.loop-bound.bound-index < length c.args.bounds.now = omega arith in
    let own = subst (λ b. (g.S.Shift.low b.shift ≡ c.args.range.low) × (g.S.Shift.high b.shift ≡ c.args.range.high))
    (sym c.bound-item.is) (c.requires.range c.loop-bound.bound-index c.bound-item.result within) in
    let none = subst (λ (parent : ℤ). AreThoseFrom (to_z w128 (of_z w128 c.args.child))
    (g.S.Shift.high c.bound-item.result.shift)
    (λ v. ¬ IsExcluded c.bound-item.result.comparison c.bound-item.result.child
    (g.S.Shift.applied c.bound-item.result.shift) parent v) None)
    (to_z-of_z w128 c.args.parent c.ranges.parent) c.in-None.ensures in
    excluded_rest (λ b v. IsExcluded b.comparison b.child (g.S.Shift.applied b.shift) c.args.parent v)
    c.args.bounds.now c.args.range.high c.args.child c.loop-bound.bound-index c.bound-item.result _ _ within
    c.bound-item.is (to_z-of_z w128 c.args.child c.ranges.child) own.1 none

pub returns : goal.returns
returns g c =
    subst (λ (parent : ℤ). All
    (λ b. ¬ IsExcluded b.comparison b.child (g.S.Shift.applied b.shift) parent c.args.child) c.args.bounds.now)
    (to_z-of_z w128 c.args.parent c.ranges.parent)
    (subst (λ (child : ℤ). All
    (λ b. ¬ IsExcluded b.comparison b.child (g.S.Shift.applied b.shift) (to_z w128 (of_z w128 c.args.parent)) child)
    c.args.bounds.now) (to_z-of_z w128 c.args.child c.ranges.child)
    (λ k d below. c.loop-bound.invariant k d (omega arith) (omega arith)))

use Rattle.std.proofs.Common.{◌≡◌, ℤ, ◌<◌, length, to_z, of_z, Some, sym, subst, arith}
use Rattle.std.proofs.lemmas.Int.{ints, clamps, to_z-of_z}
use Rattle.std.specs.Int.{w128}
use Rattle.std.specs.List.{All}
use Rattle.helix_pairs.specs.Bounds.{MeetsLower, AreThoseFrom}
use Rattle.helix_pairs.proofs.PairBounds.{all_from_low, those_from_more, those_from_all}
use Rattle.helix_pairs.proofs.pair.lower.Goals as goal

pub loop-bound-init : goal.loop-bound-init
loop-bound-init g c =
    all_from_low c.args.range.low c.args.range.high
    (λ b v. MeetsLower b.comparison b.child (g.S.Shift.applied b.shift) (to_z w128 (of_z w128 c.args.parent)) v)
    c.args.bounds.now _ (omega (arith, ints))

pub loop-bound-preserved : goal.loop-bound-preserved
loop-bound-preserved g c =
    let within : c.loop-bound.bound-index < length c.args.bounds.now = omega arith in
    let own = subst (λ b. (g.S.Shift.low b.shift ≡ c.args.range.low) × (g.S.Shift.high b.shift ≡ c.args.range.high))
    (sym c.bound-item.is) (c.requires.range c.loop-bound.bound-index c.bound-item.result within) in
    those_from_more c.args.range.low c.args.range.high
    (λ b v. MeetsLower b.comparison b.child (g.S.Shift.applied b.shift) (to_z w128 (of_z w128 c.args.parent)) v)
    c.args.bounds.now c.loop-bound.bound-index c.bound-item.result _ c.in-Some.from _ _ _ within c.bound-item.is own
    (omega (arith, ints, clamps)) c.loop-bound.invariant c.in-Some.ensures

pub returns : goal.returns
returns g c =
    subst (λ (parent : ℤ). AreThoseFrom c.args.range.low c.args.range.high
    (λ v. All (λ b. MeetsLower b.comparison b.child (g.S.Shift.applied b.shift) parent v) c.args.bounds.now)
    (Some (to_z w128 c.loop-bound.least-bits))) (to_z-of_z w128 c.args.parent c.ranges.parent)
    (those_from_all c.args.range.low c.args.range.high
    (λ b v. MeetsLower b.comparison b.child (g.S.Shift.applied b.shift) (to_z w128 (of_z w128 c.args.parent)) v)
    c.args.bounds.now c.loop-bound.bound-index _ (omega arith) c.loop-bound.invariant)

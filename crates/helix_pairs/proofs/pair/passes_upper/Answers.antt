use Rattle.std.proofs.Common.{◌≡◌, ℤ, ◌↔◌, true, false, IsTrue, FitsSigned, to_z, of_z, subst, arith}
use Rattle.std.proofs.lemmas.Int.{to_z-of_z}
use Rattle.std.specs.Int.{w128}
use Rattle.std.specs.List.{All}
use Rattle.helix_pairs.specs.Bounds.{MeetsUpper}
use Rattle.helix_pairs.proofs.PairBounds.{fails_at, passes_more, passes_all}
use Rattle.helix_pairs.proofs.pair.passes_upper.Goals as goal

pub returns-then-not-passes_upper : goal.returns-then-not-passes_upper
returns-then-not-passes_upper g c =
    let parent_fits : FitsSigned w128 c.args.parent = c.ranges.parent in
    let child_fits : FitsSigned w128 c.args.child = c.ranges.child in
    let decides = simp to_z-of_z at c.passes_upper.ensures in
    let fails : c.passes_upper.result ≡ false = cc in
    fails_at (λ b. MeetsUpper b.comparison b.child (g.S.Shift.applied b.shift) c.args.parent c.args.child)
    c.args.bounds.now c.loop-bound.bound-index c.bound-item.result c.passes_upper.result (omega arith) c.bound-item.is
    decides fails

pub loop-bound-preserved : goal.loop-bound-preserved
loop-bound-preserved g c =
    let passes : c.passes_upper.result ≡ true = cc in
    passes_more
    (λ b. MeetsUpper b.comparison b.child (g.S.Shift.applied b.shift) (to_z w128 (of_z w128 c.args.parent))
    (to_z w128 (of_z w128 c.args.child)))
    c.args.bounds.now c.loop-bound.bound-index c.bound-item.result c.passes_upper.result (omega arith) c.bound-item.is
    c.passes_upper.ensures passes c.loop-bound.invariant

pub returns : goal.returns
returns g c =
    subst (λ (parent : ℤ). IsTrue true ↔ All
    (λ b. MeetsUpper b.comparison b.child (g.S.Shift.applied b.shift) parent c.args.child) c.args.bounds.now)
    (to_z-of_z w128 c.args.parent c.ranges.parent)
    (subst (λ (child : ℤ). IsTrue true ↔ All
    (λ b. MeetsUpper b.comparison b.child (g.S.Shift.applied b.shift) (to_z w128 (of_z w128 c.args.parent)) child)
    c.args.bounds.now) (to_z-of_z w128 c.args.child c.ranges.child)
    (passes_all
    (λ b. MeetsUpper b.comparison b.child (g.S.Shift.applied b.shift) (to_z w128 (of_z w128 c.args.parent))
    (to_z w128 (of_z w128 c.args.child)))
    c.args.bounds.now c.loop-bound.bound-index (omega arith) c.loop-bound.invariant))

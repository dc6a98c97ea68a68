use Rattle.std.proofs.Common.{rules, pos, get_or, refl, FitsSigned, to_z-of_z}
use Rattle.std.specs.Int.{w128}
use Rattle.std.proofs.lemmas.Bool.{false≢true}
use Rattle.helix_grids.proofs.Kept.{kept_more, skipped_more}
use Rattle.helix_grids.proofs.keep.common.Goals as goal
use Rattle.helix_grids.proofs.keep.common.Goals.{then-is_listed+in_ok-push, else-is_listed}

pub loop-value-preserved : goal.loop-value-preserved
loop-value-preserved c =
    let fits : FitsSigned w128 (get_or c.args.values.now c.loop-value.value-index (pos 0)) = search rules in
    elim c.if-is_listed.branch [
      | then-is_listed+in_ok-push w ↦
          rw (w.kept-is, w.in_ok-push.ensures.items)
          (simp to_z-of_z (kept_more _ _ _ c.loop-value.value-index (pos 0) c.loop-value-test.true
          c.loop-value.invariant (simp to_z-of_z at w.if-is_listed.ensures.0 refl)))
      | else-is_listed w ↦
          rw w.kept-is
          (skipped_more _ _ _ c.loop-value.value-index (pos 0) c.loop-value-test.true c.loop-value.invariant
          (λ has. false≢true ((simp to_z-of_z at w.if-is_listed.ensures.1) has)))
    ]

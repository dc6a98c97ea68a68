use Rattle.std.proofs.Common.{rules, pos, get_or, refl, FitsSigned, to_z-of_z}
use Rattle.std.specs.Int.{w128}
use Rattle.std.proofs.lemmas.Bool.{false≢true}
use Rattle.helix_grids.proofs.Kept.{kept_more, skipped_more}
use Rattle.helix_grids.proofs.keep.sifted.Goals as goal
use Rattle.helix_grids.proofs.keep.sifted.Goals.{then-is_sifted+in_ok-push, else-is_sifted}

pub loop-value-preserved : goal.loop-value-preserved
loop-value-preserved g c =
    let fits : FitsSigned w128 (get_or c.args.values.now c.loop-value.value-index (pos 0)) = search rules in
    elim c.if-is_sifted.branch [
      | then-is_sifted+in_ok-push w ↦
          rw (w.kept-is, w.in_ok-push.ensures.items)
          (simp to_z-of_z (kept_more _ _ _ c.loop-value.value-index (pos 0) c.loop-value-test.true
          c.loop-value.invariant (simp to_z-of_z at w.if-is_sifted.ensures.0 refl)))
      | else-is_sifted w ↦
          rw w.kept-is
          (skipped_more _ _ _ c.loop-value.value-index (pos 0) c.loop-value-test.true c.loop-value.invariant
          (λ has. false≢true ((simp to_z-of_z at w.if-is_sifted.ensures.1) has)))
    ]

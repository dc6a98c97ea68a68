use Rattle.std.proofs.Common.{rules, FitsSigned, to_z-of_z, ◌∙◌}
use Rattle.std.specs.Int.{w128}
use Rattle.helix_grids.proofs.Windows.{exact_off_some, exact_off_none, off_within}
use Rattle.helix_grids.proofs.window.with_off.Goals as goal
use Rattle.helix_grids.proofs.window.with_off.Goals.{in-Some, in-None}

pub returns-clause-exact : goal.returns-clause-exact
returns-clause-exact g c = λ s v of inside.
    let least : FitsSigned w128 c.args.window.least = search rules in
    let most : FitsSigned w128 c.args.window.most = search rules in
    elim c.match-window.branch [
      | in-Some w ↦ simp to_z-of_z (exact_off_some (g.S.Scale.ladder s) (g.met.S.Scale.laws s) c.args.window
          w.in-Some.off c.args.level _ v w.in-Some.is (off_within _ _ c.args.window w.in-Some.is of.off_level) inside
          (w.off-is ∙ w.min-off.ensures))
      | in-None w ↦ simp to_z-of_z (exact_off_none (g.S.Scale.ladder s) c.args.window c.args.level _ v w.in-None.is
          w.off-is)
    ]

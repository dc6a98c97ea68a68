use Rattle.std.proofs.Common.{◌↔◌, ℤ, ◌+◌, take, rules, sym, ◌∙◌, subst, FitsSigned, to_z-of_z}
use Rattle.std.specs.Int.{w128}
use Rattle.std.specs.List.{Contains}
use Rattle.helix_domains.specs.Inner.Line.{cell_on}
use Rattle.helix_domains.proofs.OnLines.{units_in, units_out, units_all}
use Rattle.helix_domains.proofs.line.units_of.Goals as goal
use Rattle.helix_domains.proofs.line.units_of.Goals.{in-Some+in_ok-push, in_default}

pub loop-cell-preserved : goal.loop-cell-preserved
loop-cell-preserved c =
    elim c.match-units_on.branch [
      | in-Some+in_ok-push w ↦
          let fits : FitsSigned w128 w.in-Some.units = search rules in
          let pushed = simp to_z-of_z at w.in_ok-push.ensures.ok in
          subst (λ all. (units : ℤ) → Contains all units
          ↔ Contains (take (c.loop-cell.cell-index + 1) c.args.cells.now) (cell_on c.args.line units))
          (sym (w.all-is ∙ pushed))
          (units_in c.args.line c.args.cells.now c.loop-cell.cell-index c.cell-item.result c.loop-cell-test.true
          c.cell-item.is c.loop-cell.all c.loop-cell.invariant w.in-Some.units
          (sym c.view.ensures ∙ w.in-Some.ensures.some))
      | in_default w ↦
          subst (λ all. (units : ℤ) → Contains all units
          ↔ Contains (take (c.loop-cell.cell-index + 1) c.args.cells.now) (cell_on c.args.line units)) (sym w.all-is)
          (units_out c.args.line c.args.cells.now c.loop-cell.cell-index c.cell-item.result c.loop-cell-test.true
          c.cell-item.is c.loop-cell.all c.loop-cell.invariant
          (λ units is. w.in_default.ensures.none units (c.view.ensures ∙ is)))
    ]

pub returns : goal.returns
returns c = units_all c.args.line c.args.cells.now c.loop-cell.all c.loop-cell.cell-index c.loop-cell-test.false
    c.loop-cell.invariant

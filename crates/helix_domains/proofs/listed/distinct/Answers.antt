use Rattle.std.proofs.Common.{◌+◌, ◌++◌, ◌∷◌, [], take, sym, ap, ◌∙◌, subst}
use Rattle.std.proofs.lemmas.Bool.{iff_false}
use Rattle.helix_domains.specs.Form.{AreAscending}
use Rattle.helix_domains.specs.Inner.Listed.{HaveSameCells, IsAboveLast}
use Rattle.helix_domains.proofs.Distinct.{ascending_push, same_in, same_out, is_last, same_all}
use Rattle.helix_domains.proofs.listed.distinct.Goals as goal
use Rattle.helix_domains.proofs.listed.distinct.Goals.{then-is_above_last+in_ok-copy+in_ok-push, else-is_above_last}

pub loop-cell-preserved : goal.loop-cell-preserved
loop-cell-preserved c =
    elim c.if-is_above_last.branch [
      | then-is_above_last+in_ok-copy+in_ok-push w ↦
          let pushed = w.all-is ∙ w.in_ok-push.ensures.ok
          ∙ ap (λ x. c.loop-cell.all ++ x ∷ []) w.in_ok-copy.ensures in record {
            ascending = subst AreAscending (sym pushed) (ascending_push c.loop-cell.all c.cell-item.result
                c.loop-cell.invariant.ascending (subst (λ l. IsAboveLast l c.cell-item.result) c.as_slice.ensures
                (c.is_above_last.ensures.0 w.if-is_above_last.true)));
            same = subst (HaveSameCells (take (c.loop-cell.cell-index + 1) c.args.cells.now)) (sym pushed)
                (same_in c.args.cells.now c.loop-cell.all c.loop-cell.cell-index c.cell-item.result
                c.loop-cell-test.true
                c.cell-item.is c.loop-cell.invariant.same);
          }
      | else-is_above_last w ↦ record {
        ascending = subst AreAscending (sym w.all-is) c.loop-cell.invariant.ascending;
        same = subst (HaveSameCells (take (c.loop-cell.cell-index + 1) c.args.cells.now)) (sym w.all-is)
            (same_out c.args.cells.now c.loop-cell.all c.loop-cell.cell-index c.cell-item.result c.loop-cell-test.true
            c.cell-item.is c.loop-cell.invariant.same (is_last c.args.cells.now c.loop-cell.all c.loop-cell.cell-index
            c.cell-item.result c.loop-cell-test.true c.cell-item.is c.loop-cell.invariant.same c.requires
            (λ above. iff_false c.is_above_last.ensures w.if-is_above_last.false
            (subst (λ l. IsAboveLast l c.cell-item.result) (sym c.as_slice.ensures) above))));
      }
    ]

pub returns-clause-same : goal.returns-clause-same
returns-clause-same c = same_all c.args.cells.now c.loop-cell.all c.loop-cell.cell-index c.loop-cell-test.false
    c.loop-cell.invariant.same

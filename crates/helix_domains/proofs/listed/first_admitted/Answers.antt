use Rattle.std.proofs.Common.{arith, subst, ◌∙◌, sym}
use Rattle.std.proofs.lemmas.Bool.{iff_false}
use Rattle.helix_values.specs.Marks.{IsAdmitted}
use Rattle.helix_domains.proofs.Orders.{all_from, none_to}
use Rattle.helix_domains.proofs.listed.first_admitted.Goals as goal

pub loop-low-preserved-then-is_admitted : goal.loop-low-preserved-then-is_admitted
loop-low-preserved-then-is_admitted c = record {
  ordered = omega arith;
  within = omega arith;
  before = c.loop-low.invariant.before;
  from = all_from c.args.cells.now c.requires c.args.mark _ c.index-cells-middle.result (omega arith)
      (subst (IsAdmitted c.args.mark) (c.view.ensures ∙ c.index-cells-middle.is)
      (c.is_admitted.ensures.0 c.if-is_admitted.true));
}

pub loop-low-preserved : goal.loop-low-preserved
loop-low-preserved c = record {
  ordered = omega arith;
  within = c.loop-low.invariant.within;
  before = none_to c.args.cells.now c.requires c.args.mark _ c.index-cells-middle.result (omega arith)
      (λ admitted. iff_false c.is_admitted.ensures c.if-is_admitted.false
      (subst (IsAdmitted c.args.mark) (sym (c.view.ensures ∙ c.index-cells-middle.is)) admitted));
  from = c.loop-low.invariant.from;
}

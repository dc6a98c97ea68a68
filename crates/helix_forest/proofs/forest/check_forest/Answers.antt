use Rattle.std.proofs.Common.{[], ◌∙◌, sym, subst, arith}
use Rattle.helix_forest.specs.Inner.Trees.{AreTreesOf}
use Rattle.helix_forest.proofs.TreeSteps.{alone}
use Rattle.helix_forest.proofs.Told.{found_closed, found_on}
use Rattle.helix_forest.proofs.forest.check_forest.Goals as goal

pub loop-index-init : goal.loop-index-init
loop-index-init c = record {
  trees = subst (AreTreesOf [] c.in_ok-own_labels.field-0.items) (sym c.new.ensures)
      (alone c.args.fields c.in_ok-own_labels.field-0.items c.in_ok-own_labels.ensures);
  fields = c.in_ok-own_labels.ensures.count;
}

pub returns-then-not-branch-clause-cycle : goal.returns-then-not-branch-clause-cycle
returns-then-not-branch-clause-cycle c = found_closed c.args.relations.now c.args.fields c.requires.ends
    c.loop-index.index _ (omega arith) c.loop-index.trees c.add.new.trees c.loop-index.invariant.trees
    c.in_ok-add.field-0 c.in_ok-add.ensures.told c.if-not-branch.true

pub loop-index-preserved : goal.loop-index-preserved
loop-index-preserved c = record {
  trees = found_on c.args.relations.now c.loop-index.index _ (omega arith) c.loop-index.trees c.add.new.trees
      c.loop-index.invariant.trees c.in_ok-add.field-0 c.in_ok-add.ensures.told c.if-not-branch.false;
  fields = c.in_ok-add.ensures.fields ∙ c.loop-index.invariant.fields;
}

use Rattle.helix_tree.specs.declared.tree.Tree.TheViews.{All, Any}
use Rattle.helix_tree.proofs.Negations.{All-negated, Any-negated, parts_negated}
use Rattle.helix_tree.proofs.strict.+strict.Goals as goal

pub negated-returns-in_ok-all_negated-in-All : goal.negated-returns-in_ok-all_negated-in-All
negated-returns-in_ok-all_negated-in-All t c = parts_negated Any All All-negated c.in_ok-all_negated-in-All.field-0
    c.args.tree.now c.in-All.parts c.as_slice.result.now c.in-All.is c.as_slice.ensures
    c.in_ok-all_negated-in-All.ensures

pub negated-returns-in_ok-all_negated-in-Any : goal.negated-returns-in_ok-all_negated-in-Any
negated-returns-in_ok-all_negated-in-Any t c = parts_negated All Any Any-negated c.in_ok-all_negated-in-Any.field-0
    c.args.tree.now c.in-Any.parts c.as_slice-in-Any.result.now c.in-Any.is c.as_slice-in-Any.ensures
    c.in_ok-all_negated-in-Any.ensures

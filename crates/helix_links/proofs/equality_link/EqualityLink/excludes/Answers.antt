use Rattle.std.proofs.Common.{◌∙◌, sym}
use Rattle.helix_values.specs.View.{cell_of}
use Rattle.helix_links.proofs.Equal.{after_same, not_same, not_told}
use Rattle.helix_links.proofs.equality_link.EqualityLink.excludes.Goals as goal
use Rattle.helix_links.proofs.equality_link.EqualityLink.excludes.Goals.{else-self-via-then-self+else-eq, else-self-via-else-self}

pub returns-then-eq : goal.returns-then-eq
returns-then-eq c = after_same c.args.self.now (cell_of c.args.parent) c.args.child c.cmp_cell.result c.cmp_cell.ensures
    (sym c.eq.ensures ∙ c.if-eq.true) c.requires.child c.if-self.true

pub returns : goal.returns
returns c = elim c.else-self.branch [
  | else-self-via-then-self+else-eq w ↦ not_same c.args.self.now (cell_of c.args.parent) (cell_of c.args.child)
      w.cmp_cell.result w.cmp_cell.ensures (sym w.eq.ensures ∙ w.if-eq.false)
  | else-self-via-else-self w ↦ not_told c.args.self.now (cell_of c.args.parent) (cell_of c.args.child) w.if-self.false
]

use Rattle.std.specs.List.{All}
use Rattle.helix_links.specs.Quantities.{IsBoundIn}
use Rattle.helix_links.proofs.BoundsOf.{AreMet}
use Rattle.helix_links.proofs.offsets.bounds_of.Given as goal

abbrev pub invariant-loop-sided : goal.invariant-loop-sided
invariant-loop-sided l = record {
  in_range : All (IsBoundIn l.fn.quantity) l.bounds;
  met : AreMet l.fn.quantity l.relations l.sided-index l.bounds;
}

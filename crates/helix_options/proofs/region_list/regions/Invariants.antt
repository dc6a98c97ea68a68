use Rattle.std.proofs.Common.{length}
use Rattle.helix_options.proofs.Finding.{AreFoundOf}
use Rattle.helix_options.proofs.region_list.regions.Given as goal

abbrev pub invariant-loop-regions : goal.invariant-loop-regions
invariant-loop-regions l = AreFoundOf l.fn.profile l.fn.part l.initial.paths l.paths l.regions

abbrev pub decreases-loop-regions : goal.decreases-loop-regions
decreases-loop-regions l = length l.paths

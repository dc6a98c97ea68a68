use Rattle.std.proofs.Common.{length}
use Rattle.helix_profile.proofs.good.+are_cells_of.Given as goal

abbrev pub decreases-are_cells_of : goal.decreases-are_cells_of
decreases-are_cells_of l = length l.fields.now

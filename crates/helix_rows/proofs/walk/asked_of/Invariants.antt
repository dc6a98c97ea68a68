use Rattle.std.proofs.Common.{◌≡◌, min, take}
use Rattle.std.specs.List.{sum_by}
use Rattle.helix_base.specs.Count.{last_count}
use Rattle.helix_rows.proofs.walk.asked_of.Given as goal

abbrev pub invariant-loop-region : goal.invariant-loop-region
invariant-loop-region g l = l.total ≡ min (sum_by g.R.Region.asked (take l.region-index l.regions)) last_count

use Rattle.helix_regex.proofs.Sorting.{ascending}
use Rattle.helix_regex.proofs.joined.sort_ranges.Goals as goal

pub returns-clause-order : goal.returns-clause-order
returns-clause-order c = ascending c.sort_unstable.new.self.items c.sort_unstable.ensures.sorted

use Rattle.std.proofs.Common.{◌<◌, length}
use Rattle.std.specs.List.{All}
use Rattle.helix_options.proofs.tests.holding.all_paths.Given as goal

abbrev pub invariant-loop-number : goal.invariant-loop-number
invariant-loop-number l = All (λ number. number < length l.constraints) l.numbers.items

abbrev pub decreases-loop-all : goal.decreases-loop-all
decreases-loop-all l = length l.paths

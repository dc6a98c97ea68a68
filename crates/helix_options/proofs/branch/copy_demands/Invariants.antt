use Rattle.std.proofs.Common.{◌≡◌, take}
use Rattle.helix_options.proofs.branch.copy_demands.Given as goal

abbrev pub invariant-loop-demand : goal.invariant-loop-demand
invariant-loop-demand l = l.all ≡ take l.demand-index l.demands

use Rattle.std.proofs.Common.{◌≡◌}
use Rattle.helix_walk.specs.Inner.Numbers.{numbers_from}
use Rattle.helix_walk.proofs.gather.numbers_of.Given as goal

abbrev pub invariant-loop-index : goal.invariant-loop-index
invariant-loop-index l = l.numbers ≡ numbers_from l.first l.index

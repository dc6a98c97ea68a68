use Rattle.std.proofs.Common.{◌<◌, length}
use Rattle.std.specs.Option.{IfSome}
use Rattle.helix_domains.proofs.sets.shortest_set.Given as goal

abbrev pub invariant-loop-index : goal.invariant-loop-index
invariant-loop-index l = IfSome l.found (λ index. index < length l.atoms)

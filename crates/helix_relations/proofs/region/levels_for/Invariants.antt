use Rattle.std.proofs.Common.{◌≡◌, length}
use Rattle.helix_relations.proofs.region.levels_for.Given as goal

abbrev pub invariant-loop : goal.invariant-loop
invariant-loop l = length l.levels.items ≡ l.counter

use Rattle.std.proofs.Common.{◌↔◌, drop}
use Rattle.std.specs.List.{AllByRecursion}
use Rattle.helix_values.specs.Universe.{InUniverse}
use Rattle.helix_domains.proofs.fitting.are_members_for.Given as goal

abbrev pub invariant-loop-member : goal.invariant-loop-member
invariant-loop-member l = AllByRecursion (InUniverse l.kind) (drop l.member-index l.members)
    ↔ AllByRecursion (InUniverse l.kind) l.members

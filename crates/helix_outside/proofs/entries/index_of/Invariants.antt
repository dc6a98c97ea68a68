use Rattle.std.proofs.Common.{◌≡◌, None, map, take}
use Rattle.std.specs.Ordering.{nat_cmp}
use Rattle.std.specs.Cmp.Lexicographic.{slice_cmp}
use Rattle.std.specs.FinMap.{find}
use Rattle.helix_outside.specs.Entries.{pair_of}
use Rattle.helix_outside.proofs.entries.index_of.Given as goal

abbrev pub invariant-loop-i : goal.invariant-loop-i
invariant-loop-i l = find (slice_cmp nat_cmp) l.name (map pair_of (take l.i l.entries)) ≡ None

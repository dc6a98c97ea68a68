use Rattle.std.proofs.Common.{◌≡◌}
use Rattle.helix_options.specs.Inner.Search.{paths_left, found_by_all}
use Rattle.helix_options.proofs.paths.Paths.next.Given as goal

abbrev pub invariant-loop-alloc : goal.invariant-loop-alloc
invariant-loop-alloc l = paths_left l.self-inside.nullable l.self-inside.branches.items
    ≡ paths_left l.initial.self-inside.nullable l.initial.self-inside.branches.items

abbrev pub decreases-loop-alloc : goal.decreases-loop-alloc
decreases-loop-alloc l = (found_by_all l.self-inside.nullable l.self-inside.branches.items).steps

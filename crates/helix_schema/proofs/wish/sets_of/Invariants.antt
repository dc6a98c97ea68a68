use Rattle.std.proofs.Common.{◌≡◌}
use Rattle.helix_schema.specs.Drafts.{sets_of}
use Rattle.helix_schema.proofs.wish.sets_of.Given as goal

abbrev pub invariant-loop-wish : goal.invariant-loop-wish
invariant-loop-wish l = l.sets ≡ sets_of l.yielded

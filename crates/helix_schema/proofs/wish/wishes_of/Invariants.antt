use Rattle.std.proofs.Common.{◌≡◌, map}
use Rattle.helix_schema.specs.Drafts.{unfilled}
use Rattle.helix_schema.proofs.wish.wishes_of.Given as goal

abbrev pub invariant-loop-mention : goal.invariant-loop-mention
invariant-loop-mention l = l.wishes.items ≡ map unfilled l.yielded

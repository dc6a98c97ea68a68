use Rattle.std.proofs.Common.{◌≢◌, ℕ, ◌<◌, get_or}
use Rattle.helix_values.specs.View.{cell_of}
use Rattle.helix_profile.proofs.compare.is_member.Given as goal

abbrev pub invariant-loop-member : goal.invariant-loop-member
invariant-loop-member l = (k : ℕ) → k < l.member-index → get_or l.members k (cell_of l.value) ≢ cell_of l.value

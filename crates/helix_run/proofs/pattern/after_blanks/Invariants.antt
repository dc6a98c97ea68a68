use Rattle.std.proofs.Common.{◌≡◌, length}
use Rattle.helix_run.specs.Inner.Pattern.{after_blanks}
use Rattle.helix_run.proofs.pattern.after_blanks.Given as goal

abbrev pub invariant-loop-rest : goal.invariant-loop-rest
invariant-loop-rest l = after_blanks l.rest ≡ after_blanks l.fn.bytes

abbrev pub decreases-loop-rest : goal.decreases-loop-rest
decreases-loop-rest l = length l.rest

use Rattle.std.proofs.Common.{◌≡◌, drop}
use Rattle.helix_run.specs.Inner.Pattern.{after}
use Rattle.helix_run.proofs.pattern.after.Given as goal

abbrev pub invariant-loop-expected : goal.invariant-loop-expected
invariant-loop-expected l = after (drop l.expected-index l.pattern) l.rest ≡ after l.pattern l.fn.bytes

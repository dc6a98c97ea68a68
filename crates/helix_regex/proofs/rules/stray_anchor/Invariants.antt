use Rattle.std.proofs.Common.{◌≡◌, drop}
use Rattle.helix_regex.specs.Faults.{lesser}
use Rattle.helix_regex.specs.Inner.Rules.{least_some, stray_at}
use Rattle.helix_regex.proofs.rules.stray_anchor.Given as goal

abbrev pub invariant-loop-token : goal.invariant-loop-token
invariant-loop-token l = lesser l.least (least_some (stray_at l.size) (drop l.token-index l.tokens))
    ≡ least_some (stray_at l.size) l.tokens

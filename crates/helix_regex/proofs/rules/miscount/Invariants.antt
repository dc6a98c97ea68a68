use Rattle.std.proofs.Common.{◌≡◌, drop}
use Rattle.helix_regex.specs.Inner.Rules.{first_some, miscounted_at}
use Rattle.helix_regex.proofs.rules.miscount.Given as goal

abbrev pub invariant-loop-token : goal.invariant-loop-token
invariant-loop-token l = first_some miscounted_at (drop l.token-index l.tokens) ≡ first_some miscounted_at l.tokens

use Rattle.std.proofs.Common.{◌≡◌, ◌≤◌, drop}
use Rattle.helix_regex.specs.Inner.Rules as rules
use Rattle.helix_regex.proofs.rules.outer_bar.Given as goal

abbrev pub invariant-loop-token : goal.invariant-loop-token
invariant-loop-token l = record {
  left : rules.outer_bar l.depth (drop l.token-index l.tokens)
      ≡ rules.outer_bar 0 l.tokens;
  few : l.depth ≤ l.token-index;
}

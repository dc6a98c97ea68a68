use Rattle.std.proofs.Common.{◌≡◌, ◌≤◌, max, drop}
use Rattle.helix_regex.specs.Inner.Rules as rules
use Rattle.helix_regex.proofs.rules.deepest.Given as goal

abbrev pub invariant-loop-token : goal.invariant-loop-token
invariant-loop-token l = record {
  left : max l.most (rules.deepest l.depth (drop l.token-index l.tokens)) ≡ rules.deepest 0 l.tokens;
  few : l.depth ≤ l.token-index;
  reached : l.depth ≤ l.most;
}

use Rattle.std.proofs.Common.{◌≡◌, map, take}
use Rattle.helix_legacy.specs.Today.{rule_today}
use Rattle.helix_legacy.proofs.whole.each_today.Given as goal

abbrev pub invariant-loop-rule : goal.invariant-loop-rule
invariant-loop-rule l = l.all ≡ map rule_today (take l.rule-index l.rules)

use Rattle.helix_rules.proofs.Breaching.{found_rule, next_rule, no_more_rules}
use Rattle.helix_rules.proofs.breach.breach_in.Goals as goal

pub returns-in-Some : goal.returns-in-Some
returns-in-Some c = found_rule c.args.fields.now c.args.rules.now c.args.v.now c.loop-rule.rule-index _
    c.loop-rule-test.true c.loop-rule.invariant c.in_ok-place.field-0 c.in_ok-place.ensures c.in-Some.place c.in-Some.is

pub loop-rule-preserved : goal.loop-rule-preserved
loop-rule-preserved c = next_rule c.args.fields.now c.args.rules.now c.args.v.now c.loop-rule.rule-index _
    c.loop-rule-test.true c.loop-rule.invariant c.in_ok-place.field-0 c.in_ok-place.ensures c.in_default.not-Some

pub returns : goal.returns
returns c = no_more_rules c.args.fields.now c.args.rules.now c.args.v.now c.loop-rule.rule-index c.loop-rule-test.false
    c.loop-rule.invariant

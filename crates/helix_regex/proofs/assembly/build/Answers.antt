use Rattle.std.proofs.Common.{◌∙◌, ap}
use Rattle.std.specs.List.{list_any}
use Rattle.helix_regex.specs.Inner.Rules.{is_caret, is_dollar}
use Rattle.helix_regex.proofs.AnchorRule.{caret_rule, dollar_rule}
use Rattle.helix_regex.proofs.BuiltPatterns.{means}
use Rattle.helix_regex.proofs.assembly.build.Goals as goal

pub returns : goal.returns
returns c p e good = means p c.args.tokens.now c.in_ok-done.field-0 c.in_ok-expr.expr c.has_caret.result
    c.has_dollar.result e good c.in_ok-done.ensures
    c.in_ok-expr.ensures
    (c.has_caret.ensures ∙ (ap (list_any is_caret) e ∙ caret_rule p 0))
    (c.has_dollar.ensures ∙ (ap (list_any is_dollar) e ∙ dollar_rule p 0))

use Rattle.std.proofs.Common.{◌∙◌, ap, sym, option_copied}
use Rattle.helix_legacy.proofs.SeenNames.{rule_none, rule_some}
use Rattle.helix_legacy.proofs.names.has_faulty_name.Goals as goal

pub returns-in-None-clause-faulty : goal.returns-in-None-clause-faulty
returns-in-None-clause-faulty c = λ earlier names.
    rule_none c.args.rule.now earlier (sym c.name_in.ensures ∙ ap option_copied c.in-None.is)

pub returns-in-Some-clause-faulty : goal.returns-in-Some-clause-faulty
returns-in-Some-clause-faulty c = rule_some c.is_faulty_name.result c.args.seen.now.keys c.args.rule.now
    c.in-Some.name.now (sym c.name_in.ensures ∙ ap option_copied c.in-Some.is) c.is_faulty_name.ensures.faulty

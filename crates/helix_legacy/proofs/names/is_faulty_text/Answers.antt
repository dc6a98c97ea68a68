use Rattle.std.proofs.Common.{◌∙◌, refl, sym}
use Rattle.helix_legacy.proofs.SeenNames.{takes, is_earlier}
use Rattle.helix_legacy.proofs.names.is_faulty_text.Goals as goal

pub returns-clause-faulty : goal.returns-clause-faulty
returns-clause-faulty c = λ earlier names. is_earlier c.args.seen.now.keys c.args.text earlier c.in_ok-added.added _
    (sym c.is_name_text.ensures ∙ c.if-not-is_name_text.false) c.in_ok-added.ensures.added refl names

pub returns-clause-taken : goal.returns-clause-taken
returns-clause-taken c = λ new. takes c.args.seen.now.keys c.insert.new.self.keys c.args.text
    c.in_ok-added.ensures.updates.0

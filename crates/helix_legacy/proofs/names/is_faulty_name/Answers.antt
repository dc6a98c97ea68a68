use Rattle.helix_legacy.proofs.Naming.{faulty_other}
use Rattle.helix_legacy.proofs.SeenNames.{text_faulty, text_taken}
use Rattle.helix_legacy.proofs.names.is_faulty_name.Goals as goal

pub returns-in-None-clause-faulty : goal.returns-in-None-clause-faulty
returns-in-None-clause-faulty c = λ earlier names. faulty_other earlier c.args.name.now c.in-None.ensures.none

pub returns-in-Some-clause-faulty : goal.returns-in-Some-clause-faulty
returns-in-Some-clause-faulty c = text_faulty c.is_faulty_text.result c.args.seen.now.keys
    c.is_faulty_text.new.seen.keys c.args.name.now c.in-Some.text.now c.codes.result.now
    c.in-Some.ensures.some c.codes.ensures.value c.is_faulty_text.ensures.faulty

pub returns-in-Some-clause-taken : goal.returns-in-Some-clause-taken
returns-in-Some-clause-taken c = text_taken c.is_faulty_text.result c.args.seen.now.keys
    c.is_faulty_text.new.seen.keys c.args.name.now c.in-Some.text.now c.codes.result.now
    c.in-Some.ensures.some c.codes.ensures.value c.is_faulty_text.ensures.taken

use Rattle.std.proofs.Common.{◌∙◌, ap, length}
use Rattle.helix_regex.specs.Inner.Rules.{token_fault}
use Rattle.helix_regex.proofs.Parsed.{is_first, spells, faultless}
use Rattle.helix_regex.proofs.reader.read.Goals as goal

pub returns-in-Some-found-clause-cause : goal.returns-in-Some-found-clause-cause
returns-in-Some-found-clause-cause c = is_first c.args.codes.now c.in_default.ensures.characters
    c.in_default.ensures.pattern c.in_ok-tokens.tokens.items c.in_ok-found.found c.in-Some-found.fault
    c.in_ok-tokens.ensures
    (c.in_ok-found.ensures ∙ ap (token_fault (length c.args.codes.now)) c.as_slice.ensures.value) c.in-Some-found.is

pub returns-clause-spelt : goal.returns-clause-spelt
returns-clause-spelt c = spells c.args.codes.now c.in_default.ensures.pattern c.in_ok-tokens.tokens.items
    c.in_ok-found.found c.in_ok-regex-in-None.regex c.in_ok-tokens.ensures
    (c.in_ok-found.ensures ∙ ap (token_fault (length c.args.codes.now)) c.as_slice.ensures.value) c.in-None.is
    (λ p e good. c.in_ok-regex-in-None.ensures p (c.as_slice-in-None.ensures.value ∙ e) good)

pub returns-clause-sound : goal.returns-clause-sound
returns-clause-sound c = faultless c.args.codes.now c.in_default.ensures.pattern c.in_ok-tokens.tokens.items
    c.in_ok-found.found c.in_default.ensures.characters c.in_ok-tokens.ensures
    (c.in_ok-found.ensures ∙ ap (token_fault (length c.args.codes.now)) c.as_slice.ensures.value) c.in-None.is

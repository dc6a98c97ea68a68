use Rattle.std.proofs.Common.{IsUtf8, sym, ◌∙◌, ap, subst}
use Rattle.json.specs.Lex.{tokens}
use Rattle.helix_token.proofs.TextTokens.{text_tokens, text_utf8}
use Rattle.helix_token.proofs.seeming.seeming_parts.Goals as goal

pub returns-in_default : goal.returns-in_default
returns-in_default c = λ identity strings of_identity marked same.
    c.in_default.ensures.cases.0 (subst IsUtf8 (sym same) (text_utf8 identity strings marked))

pub returns : goal.returns
returns c = λ identity strings of_identity marked same.
    c.read_parts.ensures identity strings of_identity marked
    (c.in_ok-reader.ensures.ok
    ∙ ap tokens (c.in-Ok.ensures.cases.0 ∙ same)
    ∙ text_tokens identity strings)

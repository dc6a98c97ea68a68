use Rattle.std.proofs.Common.{◌++◌, sym, ◌∙◌, ap, map, append-nil}
use Rattle.std.specs.Str.{chars}
use Rattle.helix_token.proofs.ReadTokens.{none_first}
use Rattle.helix_token.proofs.seeming.read_strings.Goals as goal

pub returns : goal.returns
returns c =
    sym (append-nil c.loop-text.strings)
    ∙ ap (λ texts. c.loop-text.strings ++ map chars texts) (sym (none_first c.loop-text.reader c.in_default.ensures))
    ∙ c.loop-text.invariant

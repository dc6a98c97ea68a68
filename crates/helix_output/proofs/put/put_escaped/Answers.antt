use Rattle.std.proofs.Common.{◌++◌, sym, ◌∙◌, ap, arith}
use Rattle.helix_output.proofs.Characters.{quote_escaped, backslash_escaped, escaped_character}
use Rattle.helix_output.proofs.put.put_escaped.Goals as goal

pub returns-then-code-clause-bytes : goal.returns-then-code-clause-bytes
returns-then-code-clause-bytes c =
    c.put_escape.ensures.bytes
    ∙ ap (λ l. c.args.out.now.items ++ l) (sym (quote_escaped c.args.code c.if-code.true))

pub returns-then-code-2-clause-bytes : goal.returns-then-code-2-clause-bytes
returns-then-code-2-clause-bytes c =
    c.put_escape-then-code-2.ensures.bytes
    ∙ ap (λ l. c.args.out.now.items ++ l) (sym (backslash_escaped c.args.code c.if-code-2.true))

pub returns-else-code-2-clause-bytes : goal.returns-else-code-2-clause-bytes
returns-else-code-2-clause-bytes c =
    c.put_character.ensures.bytes
    ∙ ap (λ l. c.args.out.now.items ++ l)
    (sym (escaped_character c.args.code c.requires.printable (λ is. omega (arith, c.if-code.false, is))
    (λ is. omega (arith, c.if-code-2.false, is))))

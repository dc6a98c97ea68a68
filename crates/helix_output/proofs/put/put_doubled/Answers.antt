use Rattle.std.proofs.Common.{◌++◌, sym, ◌∙◌, ap, arith}
use Rattle.helix_output.proofs.Characters.{doubled_character, doubled_quote}
use Rattle.helix_output.proofs.put.put_doubled.Goals as goal

pub returns-then-code-clause-bytes : goal.returns-then-code-clause-bytes
returns-then-code-clause-bytes c =
    c.put_slice.ensures.bytes
    ∙ ap (λ l. c.args.out.now.items ++ l) (sym (doubled_quote c.args.code c.if-code.true))

pub returns-else-code-clause-bytes : goal.returns-else-code-clause-bytes
returns-else-code-clause-bytes c =
    c.put_character.ensures.bytes
    ∙ ap (λ l. c.args.out.now.items ++ l)
    (sym (doubled_character c.args.code (λ is. omega (arith, c.if-code.false, is))))

use Rattle.helix_token.proofs.ReadTokens.{parts_read}
use Rattle.helix_token.proofs.seeming.read_parts.Goals as goal

pub returns : goal.returns
returns c = λ identity strings of_identity marked same.
    parts_read identity strings c.args.reader.now c.skip.new.reader c.next_string.new.reader c.skip-2.new.reader
    c.in-Some.digits.now c.in-Some-identity_of.identity c.in_ok-read_strings.field-0 of_identity marked same
    c.skip.ensures c.in-Some.ensures c.in-Some-identity_of.ensures c.skip-2.ensures c.in_ok-read_strings.ensures

use Rattle.std.proofs.Common.{◌≡◌, rules}
use Rattle.helix_token.proofs.Faults.{read_whole}
use Rattle.helix_token.proofs.ReadTokens.{some_form}
use Rattle.helix_token.proofs.read.read_token.Goals as goal

pub returns-clause-whole : goal.returns-clause-whole
returns-clause-whole c =
    let same : c.in-Some.parts.identity ≡ c.args.identity.now = search rules in
    read_whole c.args.bytes.now c.args.identity.now c.in-Some.parts.identity c.args.fields.now c.in-Some.parts.strings
    c.as_slice.result.now c.row_of.result
    (some_form c.args.bytes.now _ c.in_ok-parts.field-0 c.in-Some.parts c.in-Some.is c.in_ok-parts.ensures) same
    c.as_slice.ensures c.row_of.ensures.cells c.row_of.ensures.strings

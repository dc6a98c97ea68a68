use Rattle.helix_json.proofs.Found.{repeated_key}
use Rattle.helix_json.proofs.reader.value_of.Goals as goal

pub returns-in-Some-2-clause-broken : goal.returns-in-Some-2-clause-broken
returns-in-Some-2-clause-broken c =
    repeated_key c.args.codes.now c.requires.scanned.0 c.args.scanned.tokens.items c.args.scanned.offsets.items
    c.requires.scanned.1 c.as_slice.result.now c.as_slice-2.result.now
    c.in-Some-2.i c.index-in-Some-2.result.now c.byte_offset-in-Some-2.result c.in_ok-i.field-0 c.as_slice.ensures.value
    c.in_default.ensures.none c.as_slice-2.ensures.value c.in-Some-2.is
    c.in_ok-i.ensures.some c.index-in-Some-2.ensures c.byte_offset-in-Some-2.ensures

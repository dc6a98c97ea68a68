use Rattle.std.proofs.Common.{◌∙◌, ap}
use Rattle.std.specs.Str.{chars}
use Rattle.helix_json.proofs.Verdicts.{are_bytes, short_text, on_value, on_unbroken, on_broken, on_keys, on_depth}
use Rattle.helix_json.proofs.reader.read.Goals as goal

pub read_text-requires-clause-short : goal.read_text-requires-clause-short
read_text-requires-clause-short c =
    let are = are_bytes c.args.bytes.now c.codes.result.now c.in-Ok.ensures.cases.1 (c.codes.ensures.value
    ∙ (c.in_ok-text-in-Ok.ensures ∙ ap chars c.in-Ok.ensures.cases.0)) in
    short_text c.args.bytes.now c.codes.result.now 1048576 are c.if-bytes-gt-MAX_BYTES.false

pub returns-in_ok-text-in-Ok-clause-value : goal.returns-in_ok-text-in-Ok-clause-value
returns-in_ok-text-in-Ok-clause-value c =
    let are = are_bytes c.args.bytes.now c.codes.result.now c.in-Ok.ensures.cases.1 (c.codes.ensures.value
    ∙ (c.in_ok-text-in-Ok.ensures ∙ ap chars c.in-Ok.ensures.cases.0)) in
    on_value c.args.bytes.now c.codes.result.now c.if-bytes-gt-MAX_BYTES.false are c.read_text.result
    c.read_text.ensures.sound

pub returns-in_ok-text-in-Ok-clause-unbroken : goal.returns-in_ok-text-in-Ok-clause-unbroken
returns-in_ok-text-in-Ok-clause-unbroken c =
    let are = are_bytes c.args.bytes.now c.codes.result.now c.in-Ok.ensures.cases.1 (c.codes.ensures.value
    ∙ (c.in_ok-text-in-Ok.ensures ∙ ap chars c.in-Ok.ensures.cases.0)) in
    on_unbroken c.args.bytes.now c.codes.result.now c.if-bytes-gt-MAX_BYTES.false are c.read_text.result
    c.read_text.ensures.sound

pub returns-in_ok-text-in-Ok-clause-broken : goal.returns-in_ok-text-in-Ok-clause-broken
returns-in_ok-text-in-Ok-clause-broken c =
    let are = are_bytes c.args.bytes.now c.codes.result.now c.in-Ok.ensures.cases.1 (c.codes.ensures.value
    ∙ (c.in_ok-text-in-Ok.ensures ∙ ap chars c.in-Ok.ensures.cases.0)) in
    on_broken c.args.bytes.now c.codes.result.now c.if-bytes-gt-MAX_BYTES.false are c.read_text.result
    c.read_text.ensures.broken

pub returns-in_ok-text-in-Ok-clause-distinct_keys : goal.returns-in_ok-text-in-Ok-clause-distinct_keys
returns-in_ok-text-in-Ok-clause-distinct_keys c =
    on_keys c.codes.result.now c.read_text.result c.read_text.ensures.sound

pub returns-in_ok-text-in-Ok-clause-depth : goal.returns-in_ok-text-in-Ok-clause-depth
returns-in_ok-text-in-Ok-clause-depth c = on_depth c.codes.result.now c.read_text.result c.read_text.ensures.sound

use Rattle.helix_json.proofs.Offsets.{is_made, placed_more}
use Rattle.helix_json.proofs.reader.byte_offset.Goals as goal

pub unwrap-requires : goal.unwrap-requires
unwrap-requires c =
    is_made c.args.codes.now c.args.count c.loop-code.code-index c.requires.scalars c.requires.within
    c.loop-code-test.true c.from_u32.result c.from_u32.ensures.value

pub loop-code-preserved : goal.loop-code-preserved
loop-code-preserved c =
    placed_more c.args.codes.now c.args.count c.loop-code.code-index c.requires.scalars c.requires.within
    c.loop-code-test.true c.from_u32.result c.unwrap.result c.loop-code.offset c.len_utf8.result
    c.from_u32.ensures.value c.unwrap.ensures c.len_utf8.ensures.len c.len_utf8.ensures.upper_bound
    c.loop-code.invariant

use Rattle.std.proofs.Common.{◌∙◌, ap, drop, drop-drop}
use Rattle.json.specs.Reads.{token_of}
use Rattle.helix_token.proofs.ReadTokens.{passed}
use Rattle.helix_token.proofs.seeming.skip.Goals as goal

pub loop-preserved : goal.loop-preserved
loop-preserved c =
    passed token_of c.next-token.result c.loop.reader c.next-token.new.self c.next-token.ensures.value
    ∙ ap (drop 1) c.loop.invariant
    ∙ drop-drop 1 c.loop.counter c.args.reader.now

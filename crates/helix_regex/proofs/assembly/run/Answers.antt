use Rattle.helix_regex.specs.declared.token.Token.TheVariants as token
use Rattle.helix_regex.proofs.Built.{runs_next, runs_all}
use Rattle.helix_regex.proofs.assembly.run.Goals as goal

pub loop-token-preserved : goal.loop-token-preserved
loop-token-preserved c = runs_next c.args.tokens.now c.loop-token.token-index (token.Bar 0) c.new-builder.result
    c.loop-token.builder c.in_ok-builder.builder c.loop-token-test.true
    c.loop-token.invariant c.in_ok-builder.ensures

pub returns : goal.returns
returns c = (
  c.new-builder.result,
  record {
    outer = c.new-builder.ensures.outer;
    done = c.new-builder.ensures.done;
    pieces = c.new-builder.ensures.pieces;
  },
  runs_all c.args.tokens.now c.loop-token.token-index c.new-builder.result c.loop-token.builder c.loop-token-test.false
      c.loop-token.invariant,
)

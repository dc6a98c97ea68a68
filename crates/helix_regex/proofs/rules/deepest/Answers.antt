use Rattle.std.proofs.Common.{get_or, refl, arith}
use Rattle.helix_regex.specs.declared.token.Token.{Token}
use Rattle.helix_regex.specs.declared.token.Token.TheVariants as token
use Rattle.helix_regex.proofs.Deep.{step, same_at}
use Rattle.helix_regex.proofs.rules.deepest.Goals as goal

pub loop-token-preserved : goal.loop-token-preserved
loop-token-preserved c =
    let t : Token = get_or c.args.tokens.now c.loop-token.token-index (token.Bar 0) in
    let (left, few, reached) = step c.args.tokens.now c.loop-token.token-index c.loop-token.depth c.loop-token.most
    c.level-depth.result c.max-most.result _ t
    c.loop-token-test.true (same_at c.args.tokens.now c.loop-token.token-index (token.Bar 0) t c.loop-token-test.true
    refl) c.loop-token.invariant.reached c.loop-token.invariant.left
    c.level-depth.ensures c.max-most.ensures in
    record { left = left; few = omega arith; reached = reached }

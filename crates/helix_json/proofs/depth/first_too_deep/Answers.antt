use Rattle.std.proofs.Common.{◌≢◌}
use Rattle.helix_json.specs.Broken.{Opens}
use Rattle.helix_json.proofs.Levels.{deep_found, counted_more}
use Rattle.helix_json.proofs.depth.first_too_deep.Goals as goal
use Rattle.helix_json.proofs.depth.first_too_deep.Goals.{else-level-eq-MAX_DEPTH-via-then-level-eq-MAX_DEPTH+else-opens, else-level-eq-MAX_DEPTH-via-else-level-eq-MAX_DEPTH}

pub returns-then-opens-clause-some : goal.returns-then-opens-clause-some
returns-then-opens-clause-some c =
    deep_found c.args.tokens.now c.loop-i.i c.loop-i.level c.index-tokens-i.result c.loop-i-test.true
    c.index-tokens-i.is c.loop-i.invariant c.if-opens.ensures c.if-level-eq-MAX_DEPTH.true

pub loop-i-preserved : goal.loop-i-preserved
loop-i-preserved c =
    let not_deep : Opens c.index-tokens-i.result → c.loop-i.level ≢ 64 =
    elim c.else-level-eq-MAX_DEPTH.branch [
      | else-level-eq-MAX_DEPTH-via-then-level-eq-MAX_DEPTH+else-opens w ↦ λ o e. w.if-opens.ensures o
      | else-level-eq-MAX_DEPTH-via-else-level-eq-MAX_DEPTH w ↦ λ o. w.if-level-eq-MAX_DEPTH.false
    ] in
    counted_more c.args.tokens.now c.loop-i.i c.loop-i.level c.level_after-level.result c.index-tokens-i.result
    c.loop-i-test.true c.index-tokens-i.is c.loop-i.invariant not_deep c.level_after-level.ensures

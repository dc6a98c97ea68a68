use Rattle.std.proofs.Common.{◌≡◌, [], reverse, drop}
use Rattle.helix_regex.specs.Inner.Positions.{total}
use Rattle.helix_regex.proofs.size.positions.Given as goal

abbrev pub invariant-loop-token : goal.invariant-loop-token
invariant-loop-token l = total (reverse l.outer.items) l.sum l.last (drop l.token-index l.tokens)
    ≡ total [] 0 0 l.tokens

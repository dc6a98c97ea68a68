use Rattle.std.proofs.Common.{◌≡◌, ◌∷◌, suc, get_or, drop, drop-cons, subst, sym, true}
use Rattle.helix_base.specs.Ranges.{IsLeastFrom, are_in_order}
use Rattle.helix_base.proofs.Tables.{IsLeastFrom-first, IsLeastFrom-left}
use Rattle.helix_base.proofs.ranges.next_at_or_after.Goals as goal

pub returns-then-code-range-clause-some : goal.returns-then-code-range-clause-some
returns-then-code-range-clause-some c =
    let at = c.loop-range.range-index in
    let front : drop at c.args.ranges.now ≡ get_or c.args.ranges.now at (0, 0) ∷ drop (suc at) c.args.ranges.now =
    drop-cons c.args.ranges.now at (0, 0) c.loop-range-test.true in
    IsLeastFrom-left c.args.ranges.now (drop at c.args.ranges.now) c.args.code c.max.result c.loop-range.invariant.1
    c.loop-range.invariant.2
    (subst (λ left. IsLeastFrom left c.args.code c.max.result) (sym front)
    (IsLeastFrom-first (get_or c.args.ranges.now at (0, 0)) (drop (suc at) c.args.ranges.now) c.args.code c.max.result
    (subst (λ left. are_in_order left ≡ true) front c.loop-range.invariant.0) c.if-code-range.true c.max.ensures))

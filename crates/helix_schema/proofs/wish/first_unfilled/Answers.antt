use Rattle.helix_schema.proofs.Wishes.{first_there, none_of}
use Rattle.helix_schema.proofs.wish.first_unfilled.Goals as goal

pub returns-then-is_none-clause-some : goal.returns-then-is_none-clause-some
returns-then-is_none-clause-some c = first_there c.args.wishes.now c.loop-i.i c.index-wishes-i.result
    c.loop-i.invariant c.loop-i-test.true c.index-wishes-i.is
    (none_of c.index-wishes-i.result.members c.is_none.result c.is_none.ensures c.if-is_none.true)

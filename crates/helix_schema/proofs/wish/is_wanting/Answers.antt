use Rattle.helix_schema.proofs.Wishes.{wanting}
use Rattle.helix_schema.proofs.wish.is_wanting.Goals as goal

pub returns : goal.returns
returns c = wanting c.args.wishes.now c.first_unfilled.result c.is_some.result c.first_unfilled.ensures.some
    c.first_unfilled.ensures.none c.is_some.ensures

use Rattle.std.proofs.Common.{sym}
use Rattle.helix_schema.proofs.Wishes.{none_wanted, wanted_at}
use Rattle.helix_schema.proofs.wish.wanted_in.Goals as goal

pub returns-in-None : goal.returns-in-None
returns-in-None c = sym (none_wanted c.args.wishes.now 1 c.in-None.ensures.none)

pub returns-in-Some : goal.returns-in-Some
returns-in-Some c = sym (wanted_at c.args.wishes.now c.in-Some.i 1 c.index-wishes-i.result c.in-Some.ensures.some)

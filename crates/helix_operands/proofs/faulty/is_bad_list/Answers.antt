use Rattle.std.proofs.Common.{length}
use Rattle.helix_places.specs.ViewLaws.{items_in}
use Rattle.helix_operands.proofs.Given.{bad_empty, bad_list, bad_long}
use Rattle.helix_operands.proofs.faulty.is_bad_list.Goals as goal

pub returns-then-items-eq0 : goal.returns-then-items-eq0
returns-then-items-eq0 c = bad_list c.args.json.now c.in-Some.items.now _ c.in-Some.ensures.none
    (items_in c.args.json.now c.in-Some.items.now c.in-Some.ensures.some)
    (bad_empty (length c.in-Some.items.now) c.if-items-eq0.true)

pub returns-else-items-eq0 : goal.returns-else-items-eq0
returns-else-items-eq0 c = bad_list c.args.json.now c.in-Some.items.now _ c.in-Some.ensures.none
    (items_in c.args.json.now c.in-Some.items.now c.in-Some.ensures.some)
    (bad_long (length c.in-Some.items.now) c.if-items-eq0.false)

use Rattle.helix_domains.proofs.Walking.{next_of_list}
use Rattle.helix_domains.proofs.walk.next_value.Goals as goal

pub returns-in-Listed-clause-answer : goal.returns-in-Listed-clause-answer
returns-in-Listed-clause-answer g c = next_of_list c.args.values.now c.in-Listed.cells c.as_slice.result.now
    c.in-Listed.is
    c.as_slice.ensures c.next_cell.result c.args.slot.now c.next_cell.new.slot c.next_cell.ensures.answer

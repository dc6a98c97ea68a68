use Rattle.helix_domains.proofs.Walking.{first_of_list}
use Rattle.helix_domains.proofs.walk.first_value.Goals as goal

pub returns-in-Listed-clause-answer : goal.returns-in-Listed-clause-answer
returns-in-Listed-clause-answer g c = first_of_list c.args.values.now c.in-Listed.cells c.as_slice.result.now
    c.in-Listed.is
    c.as_slice.ensures c.first_cell.result c.args.slot.now c.first_cell.new.slot c.first_cell.ensures.answer

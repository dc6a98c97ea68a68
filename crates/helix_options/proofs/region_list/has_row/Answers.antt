use Rattle.helix_options.proofs.Keeping.{has_row}
use Rattle.helix_options.proofs.region_list.has_row.Goals as goal

pub returns-clause-answer : goal.returns-clause-answer
returns-clause-answer g c = has_row c.args.region.now c.in_ok-prefix.prefix c.least.result c.new-cell.result
    c.least.new.out c.least.ensures.answer

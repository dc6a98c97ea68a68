use Rattle.helix_domains.proofs.Walking.{first_taken}
use Rattle.helix_domains.proofs.walk.first_cell.Goals as goal

pub returns-clause-answer : goal.returns-clause-answer
returns-clause-answer c = (first_taken c.args.cells.now c.requires.ascending c.take_at.result c.args.slot.now
    c.take_at.new.slot c.args.near.now c.take_at.new.near c.take_at.ensures).0

pub returns-clause-near : goal.returns-clause-near
returns-clause-near c = (first_taken c.args.cells.now c.requires.ascending c.take_at.result c.args.slot.now
    c.take_at.new.slot c.args.near.now c.take_at.new.near c.take_at.ensures).1

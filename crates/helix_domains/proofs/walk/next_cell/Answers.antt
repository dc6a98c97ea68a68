use Rattle.std.proofs.Common.{◌<◌, length, arith, rules}
use Rattle.helix_domains.proofs.Walking.{index_within, room_at, next_at}
use Rattle.helix_domains.proofs.walk.next_cell.Goals as goal

pub overflow_add-index : goal.overflow_add-index
overflow_add-index c =
    let kept = index_within c.args.cells.now c.args.near.now c.args.slot.now c.requires.at in
    let low : c.index_of-index.result < length c.args.cells.now = omega (arith, kept.0, c.index_of-index.ensures) in
    search rules

pub take_at-requires-clause-room : goal.take_at-requires-clause-room
take_at-requires-clause-room c = room_at c.args.cells.now c.args.near.now c.args.slot.now c.requires.at

pub returns-clause-answer : goal.returns-clause-answer
returns-clause-answer c = (next_at c.args.cells.now c.requires.ascending c.index_of-index.result c.take_at.result
    c.args.slot.now c.take_at.new.slot c.args.near.now c.take_at.new.near c.index_of-index.ensures c.requires.at
    c.take_at.ensures).0

pub returns-clause-near : goal.returns-clause-near
returns-clause-near c = (next_at c.args.cells.now c.requires.ascending c.index_of-index.result c.take_at.result
    c.args.slot.now c.take_at.new.slot c.args.near.now c.take_at.new.near c.index_of-index.ensures c.requires.at
    c.take_at.ensures).1

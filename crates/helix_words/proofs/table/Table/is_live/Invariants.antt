use Rattle.std.proofs.Common.{◌≡◌, false, take}
use Rattle.helix_words.specs.Inner.Table.{has_bit}
use Rattle.helix_words.proofs.table.Table.is_live.Given as goal

abbrev pub invariant-loop-block : goal.invariant-loop-block
invariant-loop-block l = has_bit (take l.block-index l.block-items) l.state ≡ false

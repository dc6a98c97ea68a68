use Rattle.helix_words.proofs.Filling.{SetsUpTo}
use Rattle.helix_words.proofs.blocks.set_bits.Given as goal

abbrev pub invariant-loop-state : goal.invariant-loop-state
invariant-loop-state l = SetsUpTo l.state l.place l.flags l.initial.block l.block

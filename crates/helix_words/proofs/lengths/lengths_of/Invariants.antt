use Rattle.helix_words.specs.Inner.Lengths.{IsAllowed}
use Rattle.helix_words.proofs.LengthsMore.{AreLengthsBelow}
use Rattle.helix_words.proofs.lengths.lengths_of.Given as goal

abbrev pub invariant-loop-count : goal.invariant-loop-count
invariant-loop-count l = AreLengthsBelow (IsAllowed l.table l.shortest l.longest l.refused) l.count l.lengths

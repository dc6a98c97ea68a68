use Rattle.std.proofs.Common.{◌≡◌, ◌%◌}
use Rattle.helix_words.specs.Inner.Columns.{column}
use Rattle.helix_words.specs.Inner.Blocks.{AreFilled}
use Rattle.helix_words.proofs.blocks.table_of.Given as goal

abbrev pub invariant-loop-count : goal.invariant-loop-count
invariant-loop-count l = record {
  column : l.column ≡ column l.dfa l.count;
  filled : AreFilled l.dfa l.count l.count (l.count % 64) l.blocks l.block.items;
}

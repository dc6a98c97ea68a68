use Rattle.std.proofs.Common.{◌≡◌, ℕ, ◌<◌, length, slice_index}
use Rattle.helix_words.proofs.blocks.clear_block.Given as goal

abbrev pub invariant-loop : goal.invariant-loop
invariant-loop l = record {
  long : length l.block.items ≡ l.counter;
  clear : (k : ℕ) → k < l.counter → slice_index l.block.items k ≡ 0;
}

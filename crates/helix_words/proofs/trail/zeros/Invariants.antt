use Rattle.std.proofs.Common.{◌≡◌, ℕ, ◌<◌, length, slice_index}
use Rattle.helix_words.proofs.trail.zeros.Given as goal

abbrev pub invariant-loop : goal.invariant-loop
invariant-loop l = record {
  long : length l.list.items ≡ l.counter;
  zeros : (k : ℕ) → k < l.counter → slice_index l.list.items k ≡ 0;
}

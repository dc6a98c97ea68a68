-- Blocks of bits while they are made, one length after the other.
use Rattle.std.specs.Prelude.{◌≡◌, ◌↔◌, ℕ, ◌*◌, ◌/◌, ◌%◌, ◌^◌, ◌<◌, ◌≤◌, min, Bool, true, false, List, [], ◌∷◌, ◌++◌, length, get_or, slice_index, bit_or, EachIndex}
use Rattle.std.specs.List.{All}
use Rattle.std.specs.Int.{bit_at}
use Rattle.helix_automata.specs.Automaton.{Automaton}
use Rattle.helix_words.specs.declared.table.Table.{Table}
use Rattle.helix_words.specs.Inner.Columns.{column}
use Rattle.helix_words.specs.Inner.Rests.{HasRest}
use Rattle.helix_words.specs.Inner.Table.{bit_of}

-- the bit at a place is set for the states with a flag, and all other bits stay
pub record SetsBits (place : ℕ) (flags : List Bool) (old new : List ℕ) : Type 0 where
  pub same_length : length new ≡ length old
  pub set : (state : ℕ) → state < length old → get_or flags state false ≡ true
      → slice_index new state ≡ bit_or (slice_index old state) (1 * 2 ^ place % 2 ^ 64)
  pub kept : (state : ℕ) → state < length old → get_or flags state false ≡ false
      → slice_index new state ≡ slice_index old state

-- no bit is set
abbrev pub AreClear : List ℕ → Type 0
AreClear block = EachIndex block (λ state. slice_index block state ≡ 0)

-- a full block goes to the others, and a clear one takes its place
pub record Closes (count : ℕ) (old_blocks new_blocks : List (List ℕ)) (old new : List ℕ) : Type 0 where
  pub same_length : length new ≡ length old
  pub full : count % 64 ≡ 63 → (new_blocks ≡ old_blocks ++ old ∷ []) × AreClear new
  pub open_yet : (count % 64 ≡ 63 → ⊥) → (new_blocks ≡ old_blocks) × (new ≡ old)

-- the bits of the lengths below a bound are those of the columns, the last block has the bits of some length, and those
-- from a place on are clear in it
pub record AreFilled (automaton : Automaton) (length_of_last bound clear_from : ℕ) (blocks : List (List ℕ))
    (block : List ℕ) : Type 0 where
  pub whole : All (λ full. length full ≡ length automaton.moves) blocks
  pub long : length block ≡ length automaton.moves
  pub many : length blocks ≡ length_of_last / 64
  pub bits : (state count : ℕ) → state < length automaton.moves → count < bound
      → (bit_of (blocks ++ block ∷ []) state count ≡ 1) ↔ (get_or (column automaton count) state false ≡ true)
  pub clear : (state place : ℕ) → state < length automaton.moves → clear_from ≤ place
      → bit_at (slice_index block state) place ≡ 0

-- the table answers which rests there are, up to a length
pub record IsTableOf (automaton : Automaton) (longest : ℕ) (table : Table) : Type 0 where
  pub has_blocks : table.stable / 64 < length table.blocks
  pub whole : All (λ block. length block ≡ length automaton.moves) table.blocks
  pub bits : (state count : ℕ) → state < length automaton.moves → count ≤ longest
      → (bit_of table.blocks state (min count table.stable) ≡ 1) ↔ HasRest automaton state count

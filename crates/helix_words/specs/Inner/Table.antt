-- Bits in blocks.
use Rattle.std.specs.Prelude.{ℕ, ◌/◌, ◌%◌, Bool, not, nat_eq, List, [], get_or, slice_index}
use Rattle.std.specs.List.{list_any}
use Rattle.std.specs.Int.{bit_at}

-- the bit of a length and a state: each block has the bits of 64 lengths for each state
abbrev pub bit_of : List (List ℕ) → ℕ → ℕ → ℕ
bit_of blocks state count = bit_at (slice_index (get_or blocks (count / 64) []) state) (count % 64)

-- whether a state has a bit in some block
abbrev pub has_bit : List (List ℕ) → ℕ → Bool
has_bit blocks state = list_any (λ block. not (nat_eq (slice_index block state) 0)) blocks

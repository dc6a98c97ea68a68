-- The table is filled one length after the other.
use Rattle.std.proofs.Common.{◌≡◌, ◌≢◌, ◌↔◌, ◌⊎◌, inl, inr, ℕ, ◌+◌, ◌*◌, ◌/◌, ◌%◌, ◌^◌, ◌<◌, ◌≤◌, min, Bool, true, false, List, [], ◌∷◌, ◌++◌, length, get_or, set, take, drop, slice_index, bit_or, sym, ap, ◌∙◌, subst, arith, w64}
use Rattle.std.specs.Int.{bit_at}
use Rattle.std.proofs.lemmas.Bool.{cases_lt, cases_Bool}
use Rattle.std.proofs.lemmas.List.{get_or_append_left, get_or_push, length_push, take_at}
use Rattle.std.proofs.lemmas.List.Elements.{All-push}
use Rattle.std.proofs.lemmas.Nat.Bits.{bit_at-zero, bit_at_set_same, bit_at_set_other}
use Rattle.helix_automata.specs.Automaton.{Automaton}
use Rattle.helix_automata.specs.Shape.{IsWellFormed}
use Rattle.helix_words.specs.Inner.Table.{bit_of}
use Rattle.helix_words.specs.Inner.Columns.{column}
use Rattle.helix_words.specs.Inner.Rests.{HasRest}
use Rattle.helix_words.specs.Inner.Blocks.{SetsBits, AreClear, Closes, AreFilled, IsTableOf}
use Rattle.helix_words.proofs.Columns.{HasFlag, column_rests}

-- a block that was written whole
pub written : (new old : List ℕ) (count : ℕ) → length new ≡ count → take count (new ++ drop (length new) old) ≡ new
written new old count long = take_at new (drop (length new) old) count long

-- the same flags and the same block
pub sets_same : (place : ℕ) {flags other : List Bool} {old before new : List ℕ} → flags ≡ other → old ≡ before
    → SetsBits place flags old new → SetsBits place other before new
sets_same place {flags} {other} {old} {before} {new} is was sets =
    subst (λ f. SetsBits place f before new) is (subst (λ b. SetsBits place flags b new) was sets)

-- the bit at a place is set for the states below a bound that have a flag, and all other bits stay
pub record SetsUpTo (bound place : ℕ) (flags : List Bool) (old new : List ℕ) : Type 0 where
  pub same_length : length new ≡ length old
  pub set : (state : ℕ) → state < bound → get_or flags state false ≡ true
      → slice_index new state ≡ bit_or (slice_index old state) (1 * 2 ^ place % 2 ^ 64)
  pub kept : (state : ℕ) → state < bound → get_or flags state false ≡ false
      → slice_index new state ≡ slice_index old state
  pub rest : (state : ℕ) → bound ≤ state → slice_index new state ≡ slice_index old state

-- bits in the last block and in those before it
last_bits : (blocks : List (List ℕ)) (block : List ℕ) (state count : ℕ) → length blocks ≡ count / 64
    → bit_of (blocks ++ block ∷ []) state count ≡ bit_at (slice_index block state) (count % 64)
last_bits blocks block state count many =
    ap (λ b. bit_at (slice_index b state) (count % 64)) (get_or_push blocks block [] (count / 64) many)

earlier_bits : (blocks : List (List ℕ)) (block : List ℕ) (state count : ℕ) → count / 64 < length blocks
    → bit_of (blocks ++ block ∷ []) state count ≡ bit_of blocks state count
earlier_bits blocks block state count within =
    ap (λ b. bit_at (slice_index b state) (count % 64)) (get_or_append_left blocks (block ∷ []) [] (count / 64) within)

clear_bits : (block : List ℕ) (state place : ℕ) → AreClear block → state < length block
    → bit_at (slice_index block state) place ≡ 0
clear_bits block state place clear within = ap (λ n. bit_at n place) (clear state within) ∙ bit_at-zero place

module _ (automaton : Automaton) where
  module _ (bound : ℕ) (blocks : List (List ℕ)) (old new : List ℕ)
      (filled : AreFilled automaton bound bound (bound % 64) blocks old)
      (sets : SetsBits (bound % 64) (column automaton bound) old new) where
    place_in : bound % 64 < 64
    place_in = omega arith

    bit_kept : (state place : ℕ) → state < length automaton.moves → place ≢ bound % 64
        → bit_at (slice_index new state) place ≡ bit_at (slice_index old state) place
    bit_kept state place within other =
        elim (cases_Bool (get_or (column automaton bound) state false)) [
          | inl on ↦ ap (λ n. bit_at n place) (sets.set state (omega (arith, filled.long, within)) on)
              ∙ bit_at_set_other w64 (slice_index old state) (bound % 64) place_in place other
          | inr off ↦ ap (λ n. bit_at n place) (sets.kept state (omega (arith, filled.long, within)) off)
        ]

    bit_set : (state : ℕ) → state < length automaton.moves
        → (bit_at (slice_index new state) (bound % 64) ≡ 1) ↔ HasFlag (column automaton bound) state
    bit_set state within =
        elim (cases_Bool (get_or (column automaton bound) state false)) [
          | inl on ↦ (
            (λ _. on),
            (λ _. ap (λ n. bit_at n (bound % 64)) (sets.set state (omega (arith, filled.long, within)) on)
                ∙ bit_at_set_same w64 (slice_index old state) (bound % 64) place_in),
          )
          | inr off ↦ (let none : bit_at (slice_index new state) (bound % 64) ≡ 0 =
              ap (λ n. bit_at n (bound % 64)) (sets.kept state (omega (arith, filled.long, within)) off)
              ∙ filled.clear state (bound % 64) within (omega arith) in (
                (λ one. absurd (omega (arith, none, one))),
                (λ on. let both : true ≡ false = sym on ∙ off in cc),
              ))
        ]

    bits_set : (state count : ℕ) → state < length automaton.moves → count < bound + 1
        → (bit_of (blocks ++ new ∷ []) state count ≡ 1) ↔ HasFlag (column automaton count) state
    bits_set state count within less = elim (cases_lt count bound) [
      | inl before ↦ elim (cases_lt (count / 64) (bound / 64)) [
        | inl earlier ↦
            (let here : count / 64 < length blocks = omega (arith, filled.many, earlier) in
            let same : bit_of (blocks ++ new ∷ []) state count ≡ bit_of (blocks ++ old ∷ []) state count =
            earlier_bits blocks new state count here ∙ sym (earlier_bits blocks old state count here) in
            subst (λ b. (b ≡ 1) ↔ HasFlag (column automaton count) state) (sym same)
            (filled.bits state count within before))
        | inr last ↦
            (let here : length blocks ≡ count / 64 = omega (arith, filled.many, last, before) in
            let other : count % 64 ≢ bound % 64 = λ same. omega (arith, same, last, before) in
            let same : bit_of (blocks ++ new ∷ []) state count ≡ bit_of (blocks ++ old ∷ []) state count =
            last_bits blocks new state count here ∙ bit_kept state (count % 64) within other
            ∙ sym (last_bits blocks old state count here) in
            subst (λ b. (b ≡ 1) ↔ HasFlag (column automaton count) state) (sym same)
            (filled.bits state count within before))
      ]
      | inr at ↦
          (let is : count ≡ bound = omega (arith, at, less) in
          subst (λ n. (bit_of (blocks ++ new ∷ []) state n ≡ 1) ↔ HasFlag (column automaton n) state) (sym is)
          (subst (λ b. (b ≡ 1) ↔ HasFlag (column automaton bound) state)
          (sym (last_bits blocks new state bound filled.many))
          (bit_set state within)))
    ]

    -- the bits of one more length are set
    pub filled_set : AreFilled automaton bound (bound + 1) (bound % 64 + 1) blocks new
    filled_set = record {
      whole = filled.whole;
      long = omega (arith, sets.same_length, filled.long);
      many = filled.many;
      bits = bits_set;
      clear = λ state place within from.
          bit_kept state place within (λ same. omega (arith, same, from))
          ∙ filled.clear state place within (omega (arith, from));
    }

  -- a full block is put to the others
  pub filled_close : (bound : ℕ) (old_blocks new_blocks : List (List ℕ)) (old new : List ℕ)
      → AreFilled automaton bound (bound + 1) (bound % 64 + 1) old_blocks old
      → Closes bound old_blocks new_blocks old new
      → AreFilled automaton (bound + 1) (bound + 1) ((bound + 1) % 64) new_blocks new
  filled_close bound old_blocks new_blocks old new filled closes =
      elim (cases_lt (bound % 64) 63) [
        | inl short ↦ open_yet (omega (arith, short))
        | inr end ↦ full
            (omega (arith, end))
      ]
    where
      Next : List (List ℕ) → List ℕ → Type 0
      Next blocks block = AreFilled automaton (bound + 1) (bound + 1) ((bound + 1) % 64) blocks block

      open_yet : bound % 64 < 63 → AreFilled automaton (bound + 1) (bound + 1) ((bound + 1) % 64) new_blocks new
      open_yet short =
          let stays = closes.open_yet (λ is. omega (arith, is, short)) in
          subst (λ blocks. Next blocks new) (sym stays.0) (subst (Next old_blocks) (sym stays.1) (record {
            whole = filled.whole;
            long = filled.long;
            many = omega (arith, filled.many, short);
            bits = filled.bits;
            clear = λ state place within from. filled.clear state place within (omega (arith, from, short));
          }))

      full : bound % 64 ≡ 63 → AreFilled automaton (bound + 1) (bound + 1) ((bound + 1) % 64) new_blocks new
      full end =
          let goes = closes.full end in
          let long : length new ≡ length automaton.moves = omega (arith, closes.same_length, filled.long) in
          subst (λ blocks. Next blocks new) (sym goes.0) (record {
            whole = All-push (λ block. length block ≡ length automaton.moves) old_blocks old filled.whole filled.long;
            long = long;
            many = omega (arith, length_push old_blocks old, filled.many, end);
            bits = λ state count within less.
                let here : count / 64 < length (old_blocks ++ old ∷ []) =
                omega (arith, length_push old_blocks old, filled.many, end, less) in
                subst (λ b. (b ≡ 1) ↔ HasFlag (column automaton count) state)
                (sym (earlier_bits (old_blocks ++ old ∷ []) new state count here))
                (filled.bits state count within less);
            clear = λ state place within from. clear_bits new state place goes.1 (omega (arith, long, within));
          })

  -- the blocks are a table, where the columns of all greater lengths are as that of the last one
  pub table_from : IsWellFormed automaton → (stable longest clear_from : ℕ) (blocks : List (List ℕ)) (block : List ℕ)
      → AreFilled automaton stable (stable + 1) clear_from blocks block
      → ((count : ℕ) → stable < count → count ≤ longest → column automaton count ≡ column automaton stable)
      → IsTableOf automaton longest (record { blocks = blocks ++ block ∷ []; stable = stable })
  table_from form stable longest clear_from blocks block filled alike = record {
    has_blocks = omega (arith, length_push blocks block, filled.many);
    whole = All-push (λ full. length full ≡ length automaton.moves) blocks block filled.whole filled.long;
    bits = λ state count within few. by state count within few (cases_lt stable count);
  }
    where
      by : (state count : ℕ) → state < length automaton.moves → count ≤ longest → (stable < count) ⊎ (count ≤ stable)
          → (bit_of (blocks ++ block ∷ []) state (min count stable) ≡ 1) ↔ HasRest automaton state count
      by state count within few (inl above) =
          let least : min count stable ≡ stable = omega (arith, above) in
          let bit = subst (λ n. (bit_of (blocks ++ block ∷ []) state n ≡ 1) ↔ HasFlag (column automaton n) state)
          (sym least)
          (filled.bits state stable within (omega arith)) in
          let flags = ap (λ c. get_or c state false) (ap (column automaton) least ∙ sym (alike count above few)) in
          let rests = column_rests automaton form count state within in (
            (λ one. rests.0 (sym flags ∙ bit.0 one)),
            (λ rest. bit.1 (flags ∙ rests.1 rest)),
          )
      by state count within few (inr low) =
          let least : min count stable ≡ count = omega (arith, low) in
          let bit = subst (λ n. (bit_of (blocks ++ block ∷ []) state n ≡ 1) ↔ HasFlag (column automaton n) state)
          (sym least)
          (filled.bits state count within (omega (arith, low))) in
          let flags = ap (λ n. get_or (column automaton n) state false) least in
          let rests = column_rests automaton form count state within in (
            (λ one. rests.0 (sym flags ∙ bit.0 one)),
            (λ rest. bit.1 (flags ∙ rests.1 rest)),
          )

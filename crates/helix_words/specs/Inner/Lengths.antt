-- The lengths of words.
use Rattle.std.specs.Prelude.{◌≡◌, ◌↔◌, ℕ, ◌≤◌, min, List, Option, IfSome, IfNone}
use Rattle.std.specs.List.{Contains}
use Rattle.std.specs.List.Sorted.{IsStrictlyIncreasing}
use Rattle.helix_words.specs.declared.table.Table.{Table}
use Rattle.helix_words.specs.Inner.Table.{bit_of}

-- a length within bounds that isn't refused, and that some rest of the start has
pub record IsAllowed (table : Table) (shortest longest : ℕ) (refused : List ℕ) (count : ℕ) : Type 0 where
  pub not_short : shortest ≤ count
  pub not_long : count ≤ longest
  pub not_refused : ¬ Contains refused count
  pub has_rest : bit_of table.blocks 0 (min count table.stable) ≡ 1

-- those lengths, in order
pub record AreLengths (IsLength : ℕ → Type 0) (lengths : List ℕ) : Type 0 where
  pub ascending : IsStrictlyIncreasing lengths
  pub are : (count : ℕ) → Contains lengths count ↔ IsLength count

-- the least of the numbers from one on
pub record IsLeastOf (numbers : List ℕ) (from : ℕ) (answer : Option ℕ) : Type 0 where
  pub some : IfSome answer (λ least. Contains numbers least × (from ≤ least)
      × ((other : ℕ) → Contains numbers other → from ≤ other → least ≤ other))
  pub none : IfNone answer ((other : ℕ) → Contains numbers other → ¬ (from ≤ other))

-- Numbers in room that is made once.
use Rattle.std.specs.Prelude.{ℕ, List}

-- the numbers, and for how many there is room
pub record Listed : Type 0 where
  pub items : List ℕ
  pub room : ℕ

-- Lines that are said one after the other.
use Rattle.std.specs.Prelude.{◌≡◌, ℕ, ◌≤◌, false, List, ◌++◌, length, take, Result, OnOk, OnErr, IsTrue}
use Rattle.helix_outside.specs.Console.{Screen}
use Rattle.helix_outside.specs.Count.{Counts}

-- all of the text is added, or a prefix of it where the console fails
pub record Says {T E : Type 0} (old : Screen) (text : List ℕ) (result : Result T E) (new : Screen) : Type 0 where
  pub told : new.told ≡ old.told
  pub faults : Counts result false old.faults new.faults
  pub all : OnOk result (IsTrue old.told → new.text ≡ old.text ++ text)
  pub part : OnErr result (IsTrue old.told → (n : ℕ) × (n ≤ length text) × (new.text ≡ old.text ++ take n text))

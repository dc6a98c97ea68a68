-- What is known of a console, and what a line does.
use Rattle.std.specs.Prelude.{◌≡◌, ℕ, ◌≤◌, Bool, false, List, [], ◌∷◌, ◌++◌, length, take, Result, OnOk, OnErr, IsTrue}
use Rattle.helix_outside.specs.Count.{Counts}

-- what is known of a console
pub record Screen : Type 0 where
  -- whether the console tells its text
  pub told : Bool
  pub text : List ℕ
  pub faults : ℕ

-- the bytes of a line, with the LF that ends it
abbrev pub line_text : List ℕ → List ℕ
line_text bytes = bytes ++ 10 ∷ []

-- the line is added, and where the call fails a prefix of it
pub record AddsLine {T E : Type 0} (old : Screen) (bytes : List ℕ) (result : Result T E) (new : Screen) : Type 0 where
  pub told : new.told ≡ old.told
  pub faults : Counts result false old.faults new.faults
  pub added : OnOk result (IsTrue old.told → new.text ≡ old.text ++ line_text bytes)
  pub failed : OnErr result (IsTrue old.told → (n : ℕ) × (n ≤ length (line_text bytes))
      × (new.text ≡ old.text ++ take n (line_text bytes)))

-- What writing a file leaves.
use Rattle.std.specs.Prelude.{◌≡◌, ℕ, ◌≤◌, ◌⊎◌, Bool, List, length, take, Result, OnOk, OnErr, IsTrue}
use Rattle.std.specs.FinMap.{insert}
use Rattle.helix_outside.specs.Count.{Counts}
use Rattle.helix_outside.specs.Files.{FileMap}
use Rattle.helix_outside.specs.Disk.{DiskState, is_taken}

-- a file is as it was, or holds a prefix of the text
abbrev pub HoldsPart : FileMap → List ℕ → List ℕ → FileMap → Type 0
HoldsPart old name text new = (new ≡ old) ⊎ ((n : ℕ) × (n ≤ length text) × (new ≡ insert old name (take n text)))

-- the file holds the text; where that fails it was there already, or the count of write faults rose
pub record WritesFile {T E : Type 0} (old : DiskState) (name text : List ℕ) (replace : Bool) (result : Result T E)
    (new : DiskState) : Type 0 where
  pub told : new.told ≡ old.told
  pub read_faults : new.read_faults ≡ old.read_faults
  pub write_faults : Counts result (is_taken old name replace) old.write_faults new.write_faults
  pub free : OnOk result (¬ IsTrue (is_taken old name replace))
  pub whole : OnOk result (IsTrue old.told → new.files ≡ insert old.files name text)
  pub taken : IsTrue (is_taken old name replace) → new.files ≡ old.files
  pub part : OnErr result (IsTrue old.told → HoldsPart old.files name text new.files)

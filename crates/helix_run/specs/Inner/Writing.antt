-- What writing a whole file does.
use Rattle.std.specs.Prelude.{◌≡◌, ℕ, ◌≤◌, ◌⊎◌, false, List, length, take, None, Result, OnOk, OnErr, IsTrue}
use Rattle.std.specs.FinMap.{get, insert}
use Rattle.helix_outside.specs.Count.{Counts}
use Rattle.helix_outside.specs.Files.{FileMap}
use Rattle.helix_outside.specs.Disk.{DiskState, is_taken, written}

-- writing to the open output: all bytes are appended, or a prefix of them where the count of write faults rose
pub record PutsAll {T E : Type 0} (old : DiskState) (bytes : List ℕ) (result : Result T E)
    (new : DiskState) : Type 0 where
  pub told : new.told ≡ old.told
  pub read_faults : new.read_faults ≡ old.read_faults
  pub output : new.output ≡ old.output
  pub write_faults : Counts result false old.write_faults new.write_faults
  pub all : OnOk result (IsTrue old.told → new.files ≡ written old bytes)
  pub part : OnErr result (IsTrue old.told → (n : ℕ) × (n ≤ length bytes) × (new.files ≡ written old (take n bytes)))

-- a file is as it was, or holds a prefix of the text
abbrev pub HoldsPart : FileMap → List ℕ → List ℕ → FileMap → Type 0
HoldsPart old name text new = (new ≡ old) ⊎ ((n : ℕ) × (n ≤ length text) × (new ≡ insert old name (take n text)))

-- a new file holds the text; where that fails it was there already, or the count of write faults rose
pub record WritesFile {T E : Type 0} (old : DiskState) (name text : List ℕ) (result : Result T E)
    (new : DiskState) : Type 0 where
  pub told : new.told ≡ old.told
  pub read_faults : new.read_faults ≡ old.read_faults
  pub write_faults : Counts result (is_taken old name false) old.write_faults new.write_faults
  pub was_absent : OnOk result (IsTrue old.told → get old.files name ≡ None)
  pub whole : OnOk result (IsTrue old.told → new.files ≡ insert old.files name text)
  pub taken : IsTrue (is_taken old name false) → new.files ≡ old.files
  pub part : OnErr result (IsTrue old.told → HoldsPart old.files name text new.files)

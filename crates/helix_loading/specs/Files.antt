-- What reading a whole file does.
use Rattle.std.specs.Prelude.{◌≡◌, ℕ, List, take, Some, MatchBool, IsTrue}
use Rattle.std.specs.FinMap.{get}
use Rattle.helix_outside.specs.Count.{Rose}
use Rattle.helix_outside.specs.Disk.{DiskState, is_missing}
use Rattle.helix_loading.specs.declared.reading.ReadError.{ReadError}
use Rattle.helix_loading.specs.declared.reading.ReadError.TheVariants.{Fault, Memory}

-- at most this many bytes of a file are read: one more than a profile may have
abbrev pub read_limit : ℕ
read_limit = 1048577

-- reading leaves all files and the count of write faults as they were
pub record OnlyReads (old new : DiskState) : Type 0 where
  pub told : new.told ≡ old.told
  pub files : new.files ≡ old.files
  pub write_faults : new.write_faults ≡ old.write_faults

-- the bytes are those of the named file, up to the limit, where the disk tells them
abbrev pub AreRead : DiskState → List ℕ → List ℕ → Type 0
AreRead disk name bytes = IsTrue disk.told → (whole : List ℕ) × (get disk.files name ≡ Some whole)
    × (bytes ≡ take read_limit whole)

-- reading fails where the file isn't there, and else only where the count of read faults rose
abbrev pub FailsToRead : DiskState → List ℕ → DiskState → Type 0
FailsToRead old name new =
    MatchBool (is_missing old name) (new.read_faults ≡ old.read_faults) (Rose old.read_faults new.read_faults)

-- why a file was not read: the disk failed, or memory ran out
abbrev pub StopsReading : DiskState → List ℕ → ReadError → DiskState → Type 0
StopsReading old name Fault new = FailsToRead old name new
StopsReading old name Memory new = new.read_faults ≡ old.read_faults

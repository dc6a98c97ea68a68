-- What is known of a disk, and what each of its calls does.
use Rattle.std.specs.Prelude.{◌≡◌, ℕ, ◌<◌, ◌≤◌, Bool, false, not, ◌&&◌, List, [], ◌++◌, length, take, Option, Some, None, IsSome, is_some, is_none, unwrap_or, Result, OnOk, OnErr, IfOk, IsErr, IsTrue}
use Rattle.std.specs.FinMap.{get, insert}
use Rattle.helix_outside.specs.Count.{Counts}
use Rattle.helix_outside.specs.Files.{FileMap, appended}

-- what is known of a disk
pub record DiskState : Type 0 where
  -- whether the disk tells what its files hold
  pub told : Bool
  pub files : FileMap
  -- the open input, as what is left of it where the disk tells that
  pub input : Option (List ℕ)
  -- the open output, as its name where the disk tells that
  pub output : Option (List ℕ)
  pub read_faults : ℕ
  pub write_faults : ℕ

-- the disk tells that there is no such file
abbrev pub is_missing : DiskState → List ℕ → Bool
is_missing disk name = disk.told && is_none (get disk.files name)

-- the disk tells that there is such a file, and it is not to be replaced
abbrev pub is_taken : DiskState → List ℕ → Bool → Bool
is_taken disk name replace = disk.told && (not replace && is_some (get disk.files name))

-- the files with these bytes appended to those of the open output
abbrev pub written : DiskState → List ℕ → FileMap
written disk bytes = appended disk.files (unwrap_or disk.output []) bytes

-- the named file is opened at its first byte, and an earlier input closed
pub record BeginsRead {T E : Type 0} (old : DiskState) (name : List ℕ) (result : Result T E)
    (new : DiskState) : Type 0 where
  pub told : new.told ≡ old.told
  pub files : new.files ≡ old.files
  pub output : new.output ≡ old.output
  pub write_faults : new.write_faults ≡ old.write_faults
  pub read_faults : Counts result (is_missing old name) old.read_faults new.read_faults
  pub opened : OnOk result (IsSome new.input)
  pub whole : OnOk result (IsTrue old.told → new.input ≡ get old.files name)
  pub closed : OnErr result (new.input ≡ None)

-- a prefix of the buffer is filled with the next bytes, and nothing is read only where nothing is left or no room is
pub record ReadsSome {E : Type 0} (old : DiskState) (buffer : List ℕ) (result : Result ℕ E)
    (new : DiskState) : Type 0 where
  pub told : new.told ≡ old.told
  pub files : new.files ≡ old.files
  pub output : new.output ≡ old.output
  pub write_faults : new.write_faults ≡ old.write_faults
  pub read_faults : Counts result false old.read_faults new.read_faults
  pub stays_open : IsSome new.input
  pub fits : IfOk result (λ n. n ≤ length buffer)
  pub given : IfOk result (λ n. IsTrue old.told → old.input ≡ Some (take n buffer ++ unwrap_or new.input []))
  pub ended : IfOk result (λ n. IsTrue old.told → 0 < length buffer → n ≡ 0 → old.input ≡ Some [])
  pub failed : OnErr result (new.input ≡ old.input)

-- an earlier input and an earlier output are closed; the named file is made empty and opened
pub record BeginsWrite {T E : Type 0} (old : DiskState) (name : List ℕ) (replace : Bool) (result : Result T E)
    (new : DiskState) : Type 0 where
  pub told : new.told ≡ old.told
  pub read_faults : new.read_faults ≡ old.read_faults
  pub write_faults : Counts result (is_taken old name replace) old.write_faults new.write_faults
  pub input : new.input ≡ None
  pub taken : IsTrue (is_taken old name replace) → IsErr result
  pub opened : OnOk result (IsSome new.output)
  pub named : OnOk result (IsTrue old.told → new.output ≡ Some name)
  pub emptied : OnOk result (IsTrue old.told → new.files ≡ insert old.files name [])
  pub closed : OnErr result (new.output ≡ None)
  pub failed : OnErr result (new.files ≡ old.files)

-- a prefix of the bytes is appended to the open output; where there are any, at least one is
pub record WritesSome {E : Type 0} (old : DiskState) (bytes : List ℕ) (result : Result ℕ E)
    (new : DiskState) : Type 0 where
  pub told : new.told ≡ old.told
  pub read_faults : new.read_faults ≡ old.read_faults
  pub write_faults : Counts result false old.write_faults new.write_faults
  pub input : new.input ≡ old.input
  pub output : new.output ≡ old.output
  pub fits : IfOk result (λ n. n ≤ length bytes)
  pub some : IfOk result (λ n. 0 < length bytes → 0 < n)
  pub appended : IfOk result (λ n. IsTrue old.told → new.files ≡ written old (take n bytes))
  pub failed : OnErr result (IsTrue old.told → (n : ℕ) × (n ≤ length bytes) × (new.files ≡ written old (take n bytes)))

-- the open output is closed and keeps its bytes
pub record Finishes {T E : Type 0} (old : DiskState) (result : Result T E) (new : DiskState) : Type 0 where
  pub told : new.told ≡ old.told
  pub files : new.files ≡ old.files
  pub read_faults : new.read_faults ≡ old.read_faults
  pub write_faults : Counts result false old.write_faults new.write_faults
  pub input : new.input ≡ old.input
  pub closed : new.output ≡ None

-- Writing bytes to the open output of a disk, at once or through a block.
use Rattle.std.specs.Prelude.{◌≡◌, ℕ, ◌≤◌, false, List, ◌++◌, length, take, Result, OnOk, OnErr, IsTrue}
use Rattle.helix_outside.specs.Count.{Counts}
use Rattle.helix_outside.specs.Disk.{DiskState, written}

-- nothing but the files and the count of write faults changes, and that rises where the call fails
pub record WritesOnly {T E : Type 0} (old : DiskState) (result : Result T E) (new : DiskState) : Type 0 where
  pub told : new.told ≡ old.told
  pub input : new.input ≡ old.input
  pub output : new.output ≡ old.output
  pub read_faults : new.read_faults ≡ old.read_faults
  pub write_faults : Counts result false old.write_faults new.write_faults

-- a prefix of the bytes is appended
abbrev pub AppendsPart : DiskState → List ℕ → DiskState → Type 0
AppendsPart old bytes new =
    IsTrue old.told → (n : ℕ) × (n ≤ length bytes) × (new.files ≡ written old (take n bytes))

-- all bytes are appended, or a prefix of them where the call fails
pub record PutsAll {T E : Type 0} (old : DiskState) (bytes : List ℕ) (result : Result T E)
    (new : DiskState) : Type 0 where
  pub only : WritesOnly old result new
  pub all : OnOk result (IsTrue old.told → new.files ≡ written old bytes)
  pub part : OnErr result (AppendsPart old bytes new)

-- some bytes went out, and together with those that are still owed they are the ones that were owed before
pub record OwesRest (old : DiskState) (before after : List ℕ) (new : DiskState) : Type 0 where
  pub out : List ℕ
  pub rest : out ++ after ≡ before
  pub files : IsTrue old.told → new.files ≡ written old out

-- bytes are added to those that a block owes: none is lost, and where the call fails the block stays and a prefix
-- is out
pub record AddsBytes {T E : Type 0} (old : DiskState) (owed bytes : List ℕ) (result : Result T E)
    (still_owed : List ℕ) (new : DiskState) : Type 0 where
  pub only : WritesOnly old result new
  pub ok : OnOk result (OwesRest old (owed ++ bytes) still_owed new)
  pub part : OnErr result (AppendsPart old (owed ++ bytes) new)
  pub stays : OnErr result (still_owed ≡ owed)

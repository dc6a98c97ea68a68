-- Bytes on their way to the open output of a disk, through a block.
use Rattle.std.specs.Prelude.{◌≡◌, ℕ, List, ◌++◌, Result, Ok, Err}
use Rattle.helix_outside.specs.Count.{Rose}
use Rattle.helix_outside.specs.Disk.{DiskState}
use Rattle.helix_output.specs.Writing.{AppendsPart, OwesRest}
use Rattle.helix_writing.specs.declared.data_file.WriteFault.{WriteFault}
use Rattle.helix_writing.specs.declared.data_file.WriteFault.TheVariants as fault

-- nothing but the files and the count of write faults changes
pub record KeepsOpen (old new : DiskState) : Type 0 where
  pub told : new.told ≡ old.told
  pub output : new.output ≡ old.output
  pub read_faults : new.read_faults ≡ old.read_faults

-- some bytes are out, and the others are owed
pub record HasSent (old : DiskState) (owed bytes still_owed : List ℕ) (new : DiskState) : Type 0 where
  pub keeps : KeepsOpen old new
  pub counted : new.write_faults ≡ old.write_faults
  pub rest : OwesRest old (owed ++ bytes) still_owed new

-- how a stop is counted
abbrev pub CountsStop : WriteFault → ℕ → ℕ → Type 0
CountsStop fault.Failed old new = Rose old new
CountsStop fault.Memory old new = new ≡ old

-- a prefix of them is out
pub record StopsSending (old : DiskState) (owed bytes : List ℕ) (stop : WriteFault) (new : DiskState) : Type 0 where
  pub keeps : KeepsOpen old new
  pub counted : CountsStop stop old.write_faults new.write_faults
  pub part : AppendsPart old (owed ++ bytes) new

-- the bytes are sent, after those that are owed
abbrev pub Sends : {T : Type 0} → DiskState → List ℕ → List ℕ → Result T WriteFault → List ℕ → DiskState → Type 0
Sends old owed bytes (Ok x) still_owed new = HasSent old owed bytes still_owed new
Sends old owed bytes (Err stop) still_owed new = StopsSending old owed bytes stop new

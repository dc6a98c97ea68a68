-- What generating rows does, whatever fails.
use Rattle.std.specs.Prelude.{◌≡◌, ◌⊎◌, ℕ, Bool, List, [], ◌∷◌, ◌++◌, Some, encode_utf8_all, IsTrue}
use Rattle.helix_command.specs.declared.order.Job.{Job}
use Rattle.helix_lines.specs.declared.ending.Ending.{Ending}
use Rattle.helix_lines.specs.declared.ending.Ending.TheVariants as ending
use Rattle.helix_outside.specs.Count.{Rose}
use Rattle.helix_outside.specs.Disk.{DiskState}
use Rattle.helix_outside.specs.Files.{FileMap}
use Rattle.helix_output.specs.DataText.{data_text}
use Rattle.helix_output.specs.declared.format.Format.TheVariants.{Csv}
use Rattle.helix_values.specs.declared.cell.Cell.{Cell}
use Rattle.helix_writing.specs.Files.{HoldsPart}
use Rattle.helix_generate.specs.Script.{IsCutAt, JobScript, Writes, token_after, with_data}
use Rattle.helix_generate.specs.Starts.{IsAccepted, is_kept}

-- the data file holds a prefix of the text of the rows that were to be written
pub record LeavesData (job : Job) (old new : FileMap) : Type 0 where
  pub accepted : IsAccepted job old
  pub free : ¬ IsTrue (is_kept job old job.output)
  pub part : (rows : List (List Cell)) (cut : Bool) → Writes job old accepted rows cut
      → HoldsPart old (encode_utf8_all job.output) (data_text job.format accepted.loaded.profile.fields rows) new

-- the data file is whole and cut, and the token file, if it was begun, holds a prefix of its text
pub record LeavesToken (job : Job) (old new : FileMap) : Type 0 where
  pub accepted : IsAccepted job old
  pub free : ¬ IsTrue (is_kept job old job.output)
  pub rows : List (List Cell)
  pub last : List Cell
  pub cut : IsCutAt job old accepted rows last
  pub part : (new ≡ with_data job old accepted rows) ⊎ ((name : List ℕ) × (job.token ≡ Some name)
      × ¬ IsTrue (is_kept job (with_data job old accepted rows) name)
      × HoldsPart (with_data job old accepted rows) (encode_utf8_all name) (token_after job old accepted last ++ 10 ∷ [])
      new)

-- the files are as they were, or hold such parts
abbrev pub Leaves : Job → FileMap → FileMap → Type 0
Leaves job old new = ((new ≡ old) ⊎ LeavesData job old new) ⊎ LeavesToken job old new

-- where memory ran out in CSV, the data file is as it was, or whole and cut
abbrev pub LeavesCsv : Job → FileMap → FileMap → Type 0
LeavesCsv job old new = job.format ≡ Csv → (new ≡ old) ⊎ LeavesToken job old new

-- what is known of the files that each ending leaves, beside its script
abbrev pub LeavesEnding : Job → FileMap → Ending → FileMap → Type 0
LeavesEnding job old ending.ReadFault new = new ≡ old
LeavesEnding job old ending.WriteFault new = IsAccepted job old × Leaves job old new
LeavesEnding job old ending.WantOfMemory new = Leaves job old new × LeavesCsv job old new
LeavesEnding job old other new = JobScript job old other new

-- how an ending is caused: a count rose, or the script gives it
abbrev pub CausesEnding : Job → DiskState → Ending → DiskState → Type 0
CausesEnding job old ending.ReadFault new = (new.write_faults ≡ old.write_faults)
    × (Rose old.read_faults new.read_faults ⊎ (IsTrue old.told × JobScript job old.files ending.ReadFault new.files))
CausesEnding job old ending.WriteFault new = (new.read_faults ≡ old.read_faults)
    × (Rose old.write_faults new.write_faults ⊎ (IsTrue old.told × JobScript job old.files ending.WriteFault new.files))
CausesEnding job old (ending.Word number) new = ⊥
CausesEnding job old (ending.«Option» option) new = ⊥
CausesEnding job old other new =
    (new.read_faults ≡ old.read_faults) × (new.write_faults ≡ old.write_faults)

-- how a job ends
pub record Generates (job : Job) (old : DiskState) (end : Ending) (new : DiskState) : Type 0 where
  pub told : new.told ≡ old.told
  pub cause : CausesEnding job old end new
  pub left : IsTrue old.told → LeavesEnding job old.files end new.files

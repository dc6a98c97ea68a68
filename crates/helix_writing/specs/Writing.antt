-- What writing the data file of a run does.
use Rattle.std.specs.Prelude.{◌≡◌, ℕ, Bool, List, length, Option, Some, Result, Ok, Err, IsTrue, MatchBool}
use Rattle.std.specs.FinMap.{insert}
use Rattle.helix_outside.specs.Count.{Rose}
use Rattle.helix_outside.specs.Disk.{DiskState, is_taken}
use Rattle.helix_output.specs.DataText.{data_text}
use Rattle.helix_output.specs.declared.format.Format.TheVariants.{Json}
use Rattle.helix_profile.specs.Content.{Content}
use Rattle.helix_values.specs.declared.cell.Cell.{Cell}
use Rattle.helix_walk.specs.NextRows.{end_of}
use Rattle.helix_writing.specs.Files.{HoldsPart}
use Rattle.helix_writing.specs.Rows.{AreRows}
use Rattle.helix_writing.specs.declared.data_file.DataFile.{DataFile}
use Rattle.helix_writing.specs.declared.data_file.Written.{Written}
use Rattle.helix_writing.specs.declared.data_file.WriteFault.{WriteFault}
use Rattle.helix_writing.specs.declared.data_file.WriteFault.TheVariants as fault

-- the text of the rows that are to be written
abbrev pub text_of : DataFile → Content → List (List Cell) → List ℕ
text_of file profile rows = data_text file.format profile.fields rows

-- The file holds the text of the rows, as many as are told, and the last one is known where they are cut.
pub record IsWritten (file : DataFile) (profile : Content) (start : Option (List Cell)) (old : DiskState)
    (written : Written) (last : List Cell) (new : DiskState) : Type 0 where
  pub rows : List (List Cell)
  pub are : AreRows profile start file.limit rows written.cut
  pub counted : written.rows ≡ length rows
  pub last_is : IsTrue written.cut → end_of start rows ≡ Some last
  pub files : IsTrue old.told → new.files ≡ insert old.files file.name.now (text_of file profile rows)

-- how faults are counted: a failure of the disk is, and the other ends leave the count
abbrev pub CountsWriting : Bool → Result Written WriteFault → ℕ → ℕ → Type 0
CountsWriting taken (Ok written) old new = new ≡ old
CountsWriting taken (Err fault.Failed) old new = MatchBool taken (new ≡ old) (Rose old new)
CountsWriting taken (Err fault.Memory) old new = new ≡ old

-- why the rows weren't written, and what the file holds: a prefix of the text of the rows that were to be
pub record StopsWriting (file : DataFile) (profile : Content) (start : Option (List Cell)) (old : DiskState)
    (stop : WriteFault) (new : DiskState) : Type 0 where
  pub part : IsTrue old.told → (rows : List (List Cell)) (cut : Bool) → AreRows profile start file.limit rows cut
      → HoldsPart old.files file.name.now (text_of file profile rows) new.files
  -- the lines of CSV take no memory
  pub memory : stop ≡ fault.Memory → file.format ≡ Json

-- how it ends
abbrev pub EndsWriting : DataFile → Content → Option (List Cell) → DiskState → Result Written WriteFault → List Cell
    → DiskState → Type 0
EndsWriting file profile start old (Ok written) last new = IsWritten file profile start old written last new
EndsWriting file profile start old (Err stop) last new = StopsWriting file profile start old stop new

-- the data file is written, and nothing else changes
pub record WritesRows (file : DataFile) (profile : Content) (start : Option (List Cell)) (old : DiskState)
    (result : Result Written WriteFault) (last : List Cell) (new : DiskState) : Type 0 where
  pub told : new.told ≡ old.told
  pub read_faults : new.read_faults ≡ old.read_faults
  pub write_faults : CountsWriting (is_taken old file.name.now file.replace) result old.write_faults new.write_faults
  pub taken : IsTrue (is_taken old file.name.now file.replace)
      → (result ≡ Err fault.Failed) × (new.files ≡ old.files)
  pub end : EndsWriting file profile start old result last new

-- The text of the rows of a run, on its way to the open output.
use Rattle.std.specs.Prelude.{◌≡◌, Bool, List, [], length, Option, Some, IsTrue}
use Rattle.helix_outside.specs.Disk.{DiskState}
use Rattle.helix_output.specs.Writing.{AppendsPart}
use Rattle.helix_profile.specs.Content.{Content}
use Rattle.helix_values.specs.declared.cell.Cell.{Cell}
use Rattle.helix_walk.specs.NextRows.{end_of}
use Rattle.helix_writing.specs.Inner.Putting.{IsOfFormat}
use Rattle.helix_writing.specs.Inner.Sending.{CountsStop, HasSent, KeepsOpen}
use Rattle.helix_writing.specs.Rows.{AreRows}
use Rattle.helix_writing.specs.Writing.{text_of}
use Rattle.helix_writing.specs.declared.data_file.DataFile.{DataFile}
use Rattle.helix_writing.specs.declared.data_file.WriteFault.{WriteFault}
use Rattle.helix_writing.specs.declared.data_file.Written.{Written}

-- all of it is out
pub record HasSentRows (file : DataFile) (profile : Content) (start : Option (List Cell)) (old : DiskState)
    (written : Written) (last : List Cell) (new : DiskState) : Type 0 where
  pub rows : List (List Cell)
  pub are : AreRows profile start file.limit rows written.cut
  pub counted : written.rows ≡ length rows
  pub last_is : IsTrue written.cut → end_of start rows ≡ Some last
  pub sent : HasSent old [] (text_of file profile rows) [] new

-- a prefix of it is out
pub record StopsSentRows (file : DataFile) (profile : Content) (start : Option (List Cell)) (old : DiskState)
    (stop : WriteFault) (new : DiskState) : Type 0 where
  pub keeps : KeepsOpen old new
  pub counted : CountsStop stop old.write_faults new.write_faults
  pub part : (rows : List (List Cell)) (cut : Bool) → AreRows profile start file.limit rows cut
      → AppendsPart old (text_of file profile rows) new
  pub memory : IsOfFormat file.format stop

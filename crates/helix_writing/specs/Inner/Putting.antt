-- Rows that are put into the open output, one after the other.
use Rattle.std.specs.Prelude.{◌≡◌, ℕ, suc, ◌≤◌, ◌<◌, false, true, List, [], ◌++◌, length, Option, Some, IsTrue}
use Rattle.helix_outside.specs.Disk.{DiskState}
use Rattle.helix_output.specs.Line.{Line}
use Rattle.helix_output.specs.declared.format.Format.{Format}
use Rattle.helix_output.specs.declared.format.Format.TheVariants.{Csv, Json}
use Rattle.helix_profile.specs.Content.{Content}
use Rattle.helix_profile.specs.Good.{IsGood}
use Rattle.helix_rows.specs.Parts.{IsNextRow}
use Rattle.helix_values.specs.declared.cell.Cell.{Cell}
use Rattle.helix_walk.specs.NextRows.{AreNextRows, end_of}
use Rattle.helix_writing.specs.GoodRows.{Place, NoneAbove}
use Rattle.helix_writing.specs.Rows.{AreRows}
use Rattle.helix_writing.specs.Inner.Lines.{line_in}
use Rattle.helix_writing.specs.Inner.Sending.{HasSent, StopsSending}
use Rattle.helix_writing.specs.Inner.Texts.{lines_from}
use Rattle.helix_writing.specs.declared.data_file.WriteFault.{WriteFault}
use Rattle.helix_writing.specs.declared.data_file.WriteFault.TheVariants as fault
use Rattle.helix_writing.specs.declared.data_file.Written.{Written}

-- want of memory is one of JSON alone
abbrev pub IsOfFormat : Format → WriteFault → Type 0
IsOfFormat format stop = stop ≡ fault.Memory → format ≡ Json

-- The place is this good row, and its line is in the buffer where that is CSV.
pub record StandsAt (format : Format) (place : Place) (line : Line) (row : List Cell) : Type 0 where
  pub place_is : place.row ≡ Some row
  pub good : IsGood place.profile row
  pub fields_are : line.fields ≡ place.profile.fields
  pub line_is : format ≡ Csv → line ≡ line_in Csv false place.profile.fields row

-- so many next rows after a row are put, after these bytes
pub record HasPut (format : Format) (profile : Content) (row : List Cell) (front : List ℕ) (rows : List (List Cell))
    (old : DiskState) (owed still_owed : List ℕ) (new : DiskState) : Type 0 where
  pub next : AreNextRows (IsGood profile) (Some row) rows
  pub sent : HasSent old owed (front ++ lines_from format false profile.fields rows) still_owed new

-- no more next rows than these were on their way when it stopped
pub record StopsPutting (format : Format) (profile : Content) (row : List Cell) (front : List ℕ) (limit : ℕ)
    (old : DiskState) (owed : List ℕ) (stop : WriteFault) (new : DiskState) : Type 0 where
  pub rows : List (List Cell)
  pub next : AreNextRows (IsGood profile) (Some row) rows
  pub few : suc (length rows) ≤ limit
  pub sent : StopsSending old owed (front ++ lines_from format false profile.fields rows) stop new
  pub memory : IsOfFormat format stop

-- where they end after a row: at a last one with a further one above it, as many as the limit, or without a further one
pub record EndsPutting (profile : Content) (row : List Cell) (limit : ℕ) (rows : List (List Cell)) (written : Written)
    (last : List Cell) : Type 0 where
  pub counted : written.rows ≡ suc (length rows)
  pub few : suc (length rows) ≤ limit
  pub whole : written.cut ≡ false → NoneAbove profile (end_of (Some row) rows)
  pub full : written.cut ≡ true → suc (length rows) ≡ limit
  pub last_is : written.cut ≡ true → end_of (Some row) rows ≡ Some last
  pub further : written.cut ≡ true → (more : List Cell) × IsNextRow (IsGood profile) (end_of (Some row) rows) more

-- rows after a row are put to their end
pub record PutsRest (format : Format) (profile : Content) (row : List Cell) (front : List ℕ) (limit : ℕ)
    (old : DiskState) (owed : List ℕ) (written : Written) (last : List Cell) (still_owed : List ℕ)
    (new : DiskState) : Type 0 where
  pub rows : List (List Cell)
  pub put : HasPut format profile row front rows old owed still_owed new
  pub end : EndsPutting profile row limit rows written last

-- All rows but the last one or two that the limit allows are put, of which the first is counted already; fewer only
-- where no further one is there.
pub record PutsMost (format : Format) (profile : Content) (row : List Cell) (limit : ℕ) (old : DiskState)
    (owed : List ℕ) (count : ℕ) (place : Place) (still_owed : List ℕ) (new : DiskState) : Type 0 where
  pub rows : List (List Cell)
  pub put : HasPut format profile row [] rows old owed still_owed new
  pub place_is : place ≡ record { profile = profile; row = end_of (Some row) rows }
  pub counted : count ≡ suc (length rows)
  pub few : count ≤ limit
  pub alone : count ≡ limit → count ≡ 1
  pub none : suc count < limit → NoneAbove profile (end_of (Some row) rows)

-- the rows of the run above a start are put
pub record PutsRows (format : Format) (profile : Content) (start : Option (List Cell)) (limit : ℕ) (old : DiskState)
    (owed : List ℕ) (written : Written) (last : List Cell) (still_owed : List ℕ) (new : DiskState) : Type 0 where
  pub rows : List (List Cell)
  pub are : AreRows profile start limit rows written.cut
  pub counted : written.rows ≡ length rows
  pub last_is : IsTrue written.cut → end_of start rows ≡ Some last
  pub sent : HasSent old owed (lines_from format true profile.fields rows) still_owed new

-- no more next rows than these were on their way when it stopped
pub record StopsRows (format : Format) (profile : Content) (start : Option (List Cell)) (limit : ℕ) (old : DiskState)
    (owed : List ℕ) (stop : WriteFault) (new : DiskState) : Type 0 where
  pub rows : List (List Cell)
  pub next : AreNextRows (IsGood profile) start rows
  pub few : length rows ≤ limit
  pub sent : StopsSending old owed (lines_from format true profile.fields rows) stop new
  pub memory : IsOfFormat format stop

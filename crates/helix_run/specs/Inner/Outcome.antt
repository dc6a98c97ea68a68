-- What an order does on the disk, and what is then said on the console.
use Rattle.std.specs.Prelude.{◌≡◌, ℕ, Bool, true, false, List, length, Result, Ok, Err, is_ok, MatchOption}
use Rattle.helix_outside.specs.Disk.{DiskState}
use Rattle.helix_outside.specs.Console.{Screen, AddsLine}
use Rattle.helix_outside.specs.declared.disk.Failed.{Failed}
use Rattle.helix_run.specs.declared.outcome.Outcome.{Outcome}
use Rattle.helix_run.specs.declared.outcome.Outcome.TheVariants.{Usage, ReadFault, ProfileRefused, WriteFault, WantOfMemory, Done}
use Rattle.helix_run.specs.declared.status.Status.{Status}
use Rattle.helix_run.specs.declared.status.Status.TheVariants as status
use Rattle.helix_run.specs.Words.{Names, order_of}
use Rattle.helix_run.specs.Inner.Reading.{OnlyReads, AreRead, FailsToRead}
use Rattle.helix_run.specs.Inner.Writing.{WritesFile}
use Rattle.helix_run.specs.Profile.{Field, ReadsProfile, IsRefused}
use Rattle.helix_run.specs.Rows.{Flag, IsFlagAnswer}
use Rattle.helix_run.specs.Output.{csv_text}
use Rattle.helix_run.specs.Lines.{usage_line, refused_line, read_fault_line, write_fault_line, memory_line, done_line}

-- these bytes of the profile file were read, without a fault
pub record HasInput (names : Names) (old now : DiskState) (bytes : List ℕ) : Type 0 where
  pub only_reads : OnlyReads old now
  pub read_faults : now.read_faults ≡ old.read_faults
  pub are_read : AreRead old names.profile bytes

-- the answer list of the field was to be written
pub record Wrote {T E : Type 0} (names : Names) (field : Field) (old : DiskState) (result : Result T E)
    (new : DiskState) : Type 0 where
  pub rows : List (List Flag)
  pub answer : IsFlagAnswer field rows
  pub written : WritesFile old names.output (csv_text field.name rows) result new

-- how an order ends on the disk, once its field is known
abbrev pub EndsField : Names → Field → DiskState → Outcome → DiskState → Type 0
EndsField names field old WriteFault new = (failed : Failed) × Wrote {T = Unit {0}} names field old (Err failed) new
EndsField names field old WantOfMemory new = new ≡ old
EndsField names field old (Done count) new = (wrote : Wrote {E = Failed} names field old (Ok (tt {0})) new)
    × (count ≡ length wrote.rows)
EndsField names field old _ new = ⊥

-- how it ends once the bytes of its profile file are known
abbrev pub EndsProfile : Names → List ℕ → DiskState → Outcome → DiskState → Type 0
EndsProfile names bytes old ProfileRefused new = IsRefused bytes × (new ≡ old)
EndsProfile names bytes old outcome new = (field : Field) × ReadsProfile bytes field
    × EndsField names field old outcome new

-- how an order ends: the file isn't read, or it is read and then
abbrev pub EndsOrder : Names → DiskState → Outcome → DiskState → Type 0
EndsOrder names old ReadFault new = OnlyReads old new × FailsToRead old names.profile new
EndsOrder names old WantOfMemory new = OnlyReads old new × (new.read_faults ≡ old.read_faults)
EndsOrder names old outcome new = (now : DiskState) × (bytes : List ℕ) × HasInput names old now bytes
    × EndsProfile names bytes now outcome new

-- the line for an outcome, and the status, which is a fault where the line of a finished run wasn't shown
abbrev pub line_for : Outcome → List ℕ
line_for Usage = usage_line
line_for ReadFault = read_fault_line
line_for ProfileRefused = refused_line
line_for WriteFault = write_fault_line
line_for WantOfMemory = memory_line
line_for (Done count) = done_line count

abbrev pub status_for : Outcome → Bool → Status
status_for Usage shown = status.Usage
status_for ReadFault shown = status.ReadFault
status_for ProfileRefused shown = status.ProfileRefused
status_for WriteFault shown = status.WriteFault
status_for WantOfMemory shown = status.WantOfMemory
status_for (Done count) true = status.Done
status_for (Done count) false = status.WriteFault

-- the line of the outcome was shown, or not, and the status goes by that
pub record Tells (outcome : Outcome) (old : Screen) (answer : Status) (new : Screen) : Type 0 where
  pub result : Result (Unit {0}) Failed
  pub added : AddsLine old (line_for outcome) result new
  pub status : answer ≡ status_for outcome (is_ok result)

-- how the words end on the disk
abbrev pub Generates : List (List ℕ) → DiskState → Outcome → DiskState → Type 0
Generates words old outcome new =
    MatchOption (order_of words) ((outcome ≡ Usage) × (new ≡ old)) (λ names. EndsOrder names old outcome new)

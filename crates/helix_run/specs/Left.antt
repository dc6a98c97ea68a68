-- What a run leaves: the files, and the line on the console.
use Rattle.std.specs.Prelude.{◌≡◌, ℕ, ◌≤◌, ◌⊎◌, List, ◌++◌, length, take, None}
use Rattle.std.specs.FinMap.{get, insert}
use Rattle.helix_outside.specs.Files.{FileMap}
use Rattle.helix_outside.specs.Console.{Screen, line_text}
use Rattle.helix_run.specs.declared.status.Status.{Status}
use Rattle.helix_run.specs.declared.status.Status.TheVariants.{Done, Usage, ReadFault, WriteFault, ProfileRefused, WantOfMemory}
use Rattle.helix_run.specs.Words.{Names}
use Rattle.helix_run.specs.Profile.{Field}
use Rattle.helix_run.specs.Rows.{Flag, IsFlagAnswer}
use Rattle.helix_run.specs.Output.{csv_text}
use Rattle.helix_run.specs.Lines.{usage_line, refused_line, read_fault_line, write_fault_line, memory_line, done_line}
use Rattle.helix_run.specs.Script.{HasField}

-- the text that belongs into the output, which wasn't there
pub record HasText (words : List (List ℕ)) (files : FileMap) (output text : List ℕ) : Type 0 where
  pub names : Names
  pub field : Field
  pub rows : List (List Flag)
  pub has : HasField words files names field
  pub answer : IsFlagAnswer field rows
  pub absent : get files names.output ≡ None
  pub output_is : output ≡ names.output
  pub text_is : text ≡ csv_text field.name rows

-- the output holds its text, and no other file is touched
pub record HoldsWhole (words : List (List ℕ)) (old new : FileMap) : Type 0 where
  pub output : List ℕ
  pub text : List ℕ
  pub has : HasText words old output text
  pub holds : new ≡ insert old output text

-- the output holds a prefix of its text, and no other file is touched
pub record HoldsPrefix (words : List (List ℕ)) (old new : FileMap) : Type 0 where
  pub output : List ℕ
  pub text : List ℕ
  pub size : ℕ
  pub has : HasText words old output text
  pub within : size ≤ length text
  pub holds : new ≡ insert old output (take size text)

-- the files after each status
abbrev pub Left : List (List ℕ) → FileMap → Status → FileMap → Type 0
Left words old Usage new = new ≡ old
Left words old ReadFault new = new ≡ old
Left words old ProfileRefused new = new ≡ old
Left words old WantOfMemory new = new ≡ old
Left words old WriteFault new = (new ≡ old) ⊎ HoldsPrefix words old new
Left words old Done new = HoldsWhole words old new
Left words old _ new = ⊥

-- the line that belongs to a status
abbrev pub IsLineOf : Status → List ℕ → Type 0
IsLineOf Usage line = line ≡ usage_line
IsLineOf ReadFault line = line ≡ read_fault_line
IsLineOf WriteFault line = line ≡ write_fault_line
IsLineOf ProfileRefused line = line ≡ refused_line
IsLineOf WantOfMemory line = line ≡ memory_line
IsLineOf Done line = (rows : ℕ) × (line ≡ done_line rows)
IsLineOf _ line = ⊥

-- the console got this one line and nothing else
pub record ShowsLine (before : Screen) (status : Status) (after : Screen) : Type 0 where
  pub line : List ℕ
  pub belongs : IsLineOf status line
  pub shown : after.text ≡ before.text ++ line_text line
